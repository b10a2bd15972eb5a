use Rattle.seat_views.specs.Starts.{Puts}
use Rattle.seat_views.proofs.starts.put_stamps.Given as goal

abbrev pub invariant-loop-i : goal.invariant-loop-i
invariant-loop-i l = Puts l.fn.words l.from l.i (λ _. l.stamp) l.words
