use Rattle.seat_views.specs.Trials.{IsReady}
use Rattle.exchange_loop.proofs.trials.add_many.Given as goal

abbrev pub invariant-loop : goal.invariant-loop
invariant-loop g l = IsReady l.arena l.pass
