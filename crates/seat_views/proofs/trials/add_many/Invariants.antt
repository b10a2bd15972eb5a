use Rattle.seat_views.specs.Trials.{IsReady}
use Rattle.seat_views.proofs.trials.add_many.Given as goal

abbrev pub invariant-loop : goal.invariant-loop
invariant-loop l = IsReady l.arena l.pass
