use Rattle.place_core.specs.PartValues.{part_of}
use Rattle.seat_views.specs.Starts.{Puts}
use Rattle.seat_views.proofs.starts.put_parts.Given as goal

abbrev pub invariant-loop-i : goal.invariant-loop-i
invariant-loop-i l = Puts l.fn.words l.from l.i (λ j. part_of l.bits j l.value) l.words
