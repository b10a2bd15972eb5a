use Rattle.seat_views.specs.Trials.{IsReady}
use Rattle.sized_calls.proofs.tests.at_edges.Given as goal

abbrev pub invariant-loop-before : goal.invariant-loop-before
invariant-loop-before g l = IsReady l.region.arena l.pass
