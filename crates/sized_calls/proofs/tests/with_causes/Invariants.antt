use Rattle.seat_views.specs.Trials.{IsReady}
use Rattle.sized_calls.proofs.tests.with_causes.Given as goal

abbrev pub invariant-loop-call : goal.invariant-loop-call
invariant-loop-call g l = IsReady l.region.arena l.pass
