use Rattle.seat_views.specs.Trials.{IsReady}
use Rattle.wait_cell.proofs.trials.lend.Given as goal

abbrev pub invariant-loop : goal.invariant-loop
invariant-loop g l = IsReady l.arena l.pass
