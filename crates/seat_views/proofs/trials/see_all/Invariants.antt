use Rattle.seat_views.specs.Trials.{SeesParts}
use Rattle.seat_views.proofs.trials.see_all.Given as goal

abbrev pub invariant-loop-i : goal.invariant-loop-i
invariant-loop-i l = SeesParts l.arena l.object l.i l.pass
