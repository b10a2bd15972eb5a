use Rattle.seat_views.specs.Trials.{IsReady}
use Rattle.update_table.proofs.crowd.many.Given as goal

abbrev pub invariant-loop : goal.invariant-loop
invariant-loop g l = IsReady l.arena l.pass
