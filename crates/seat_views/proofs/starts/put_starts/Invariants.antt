use Rattle.seat_views.specs.Starts.{StartsSoFar}
use Rattle.seat_views.proofs.starts.put_starts.Given as goal

abbrev pub invariant-loop-i : goal.invariant-loop-i
invariant-loop-i l = StartsSoFar l.shape l.words l.i
