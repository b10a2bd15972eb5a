use Rattle.std.proofs.Common.{ℕ, ◌≡◌, ◌≤◌, ◌<◌, ◌-◌, length, slice_get, slice_index}
use Rattle.place_core.specs.Validity.{span_in}
use Rattle.place_core.proofs.valid.put_spans.Given as goal

-- the front is written
abbrev pub invariant-objects : goal.invariant-objects
invariant-objects l = record {
  within : l.i ≤ length l.objects;
  same : length l.spans ≡ length l.objects;
  filled : (k : ℕ) → k < l.i → slice_index l.spans k ≡ span_in (slice_get l.objects k);
}

abbrev pub decreases-objects : goal.decreases-objects
decreases-objects l = length l.objects - l.i
