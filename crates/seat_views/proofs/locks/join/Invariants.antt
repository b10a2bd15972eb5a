use Rattle.std.specs.Prelude.{◌≡◌, ◌<◌, ◌*◌, ◌^◌, slice_index}
use Rattle.place_core.specs.PartValues.{joined}
use Rattle.seat_views.proofs.locks.join.Given as goal

abbrev pub invariant-loop-i : goal.invariant-loop-i
invariant-loop-i l = (l.value ≡ joined l.bits (slice_index l.read) l.i) × (l.value < 2 ^ (l.bits * l.i))
