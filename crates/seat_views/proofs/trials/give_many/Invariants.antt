use Rattle.seat_views.specs.Trials.{IsReadyRoot}
use Rattle.seat_views.proofs.trials.give_many.Given as goal

abbrev pub invariant-loop-i : goal.invariant-loop-i
invariant-loop-i l = IsReadyRoot l.arena l.root
