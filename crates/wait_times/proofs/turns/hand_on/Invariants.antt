use Rattle.seat_views.specs.Trials.{IsReady}
use Rattle.wait_times.proofs.turns.hand_on.Given as goal

abbrev pub invariant-loop : goal.invariant-loop
invariant-loop g l = IsReady l.arena l.pass
