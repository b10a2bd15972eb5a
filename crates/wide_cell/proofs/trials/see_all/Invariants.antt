use Rattle.seat_views.specs.Trials.{SeesParts}
use Rattle.wide_cell.proofs.trials.see_all.Given as goal

abbrev pub invariant-loop-part : goal.invariant-loop-part
invariant-loop-part l = SeesParts l.arena 0 l.part l.pass
