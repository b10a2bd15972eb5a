use Rattle.seat_views.specs.Trials.{IsReady}
use Rattle.sized_calls.proofs.tests.with_orders.Given as goal

abbrev pub invariant-loop-op : goal.invariant-loop-op
invariant-loop-op g l = IsReady l.region.arena l.pass

abbrev pub invariant-loop-order : goal.invariant-loop-order
invariant-loop-order g l = IsReady l.region.arena l.pass

abbrev pub invariant-loop-failure : goal.invariant-loop-failure
invariant-loop-failure g l = IsReady l.region.arena l.pass
