use Rattle.std.proofs.Common.{true}
use Rattle.seat_views.specs.Trials.{IsReady}
use Rattle.wait_cell.specs.Waits.{LoadsAll}
use Rattle.wait_cell.proofs.waits.wait_while.Given as goal

-- loads were made, and at each number found the closure answered true
abbrev pub invariant-loop : goal.invariant-loop
invariant-loop g l =
    (goal.iterator-loop g).can_next l.iterator' × (goal.iterator-loop g).is_finite l.iterator' × IsReady l.arena l.pass × LoadsAll l.arena.shape l.served.object (λ n. goal.F-post g l.goes_on n true) l.fn.pass l.pass
