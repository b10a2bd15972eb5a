use Rattle.seat_views.specs.Trials.{IsReady}
use Rattle.update_table.proofs.trials.rows_hold.Given as goal

abbrev pub invariant-loop-row : goal.invariant-loop-row
invariant-loop-row g l = IsReady l.arena l.pass
