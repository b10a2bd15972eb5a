use Rattle.seat_views.specs.Trials.{IsReady}
use Rattle.wait_cell.specs.Takes.{WaitsOften}
use Rattle.wait_cell.proofs.permits.Permits.take.Given as goal

-- each time before none was left, and the pass waited for one
abbrev pub invariant-loop : goal.invariant-loop
invariant-loop g l =
    (goal.iterator-loop g).can_next l.iterator' × (goal.iterator-loop g).is_finite l.iterator' × IsReady l.arena l.pass × WaitsOften l.arena.shape l.self l.fn.pass l.pass
