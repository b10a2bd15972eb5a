use Rattle.seat_views.specs.Trials.{IsReady}
use Rattle.call_times.proofs.turns.raised.Given as goal

abbrev pub invariant-loop : goal.invariant-loop
invariant-loop g l = IsReady l.arena l.pass
