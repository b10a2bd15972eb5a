use Rattle.any_size.specs.Calls.{Trying}
use Rattle.any_size.proofs.hold.take.Given as goal

abbrev pub invariant-loop : goal.invariant-loop
invariant-loop g l =
    (goal.iterator-loop g).can_next l.iterator' × (goal.iterator-loop g).is_finite l.iterator' × Trying l.blocks l.object l.fn.pass l.pass
