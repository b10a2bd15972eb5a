use Rattle.std.proofs.Common.{◌≡◌, ℕ, ◌+◌, ◌<◌, ◌≤◌, length, map, slice_index}
use Rattle.std.specs.Prelude.{min}
use Rattle.std.specs.List.{AllByRecursion}
use Rattle.place_core.specs.WordSums.{lanes_in}
use Rattle.place_core.specs.Shapes.{strip_of}
use Rattle.place_core.specs.Validity.{IsObject}
use Rattle.layout_plan.proofs.soles.count_lanes.Given as goal

-- what was counted, and the lanes of the objects that are left, are all, up to 2
abbrev pub invariant-objects : goal.invariant-objects
invariant-objects l = record {
  objects : AllByRecursion (IsObject l.shape) l.rest;
  words : length l.counts ≡ l.shape.words;
  small : (w : ℕ) → slice_index l.counts w ≤ 2;
  counted : (w : ℕ) → w < l.shape.words → min 2 (slice_index l.counts w + lanes_in (map (λ a. strip_of a.place) l.rest) w) ≡ min 2 (lanes_in (map (λ a. strip_of a.place) l.objects) w);
}

abbrev pub decreases-objects : goal.decreases-objects
decreases-objects l = length l.rest
