use Rattle.exchange_loop.specs.Turns.{Turning}
use Rattle.exchange_loop.proofs.turns.turn_until.Given as goal

abbrev pub invariant-loop : goal.invariant-loop
invariant-loop g l =
    (goal.iterator-loop g).can_next l.iterator' × (goal.iterator-loop g).is_finite l.iterator' × Turning l.arena.shape l.fn.lane l.call l.fn.pass l.found l.pass
