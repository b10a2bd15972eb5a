use Rattle.seq_lock.specs.Holds.{Trying}
use Rattle.seq_lock.proofs.holds.take.Given as goal

abbrev pub invariant-loop : goal.invariant-loop
invariant-loop g l =
    (goal.iterator-loop g).can_next l.iterator' × (goal.iterator-loop g).is_finite l.iterator' × Trying l.arena.shape l.object l.fn.pass l.pass
