use Rattle.seat_views.specs.Trials.{IsReady}
use Rattle.sized_times.proofs.turns.Given as goal

abbrev pub invariant-loop : goal.invariant-loop
invariant-loop g l = IsReady l.region.arena l.pass
