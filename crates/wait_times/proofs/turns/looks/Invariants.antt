use Rattle.seat_views.specs.Trials.{IsReady}
use Rattle.wait_times.proofs.turns.looks.Given as goal

abbrev pub invariant-loop : goal.invariant-loop
invariant-loop l = IsReady l.arena l.pass
