use Rattle.seq_lock.specs.Holds.{Reading}
use Rattle.seq_lock.proofs.holds.held_value.Given as goal

abbrev pub invariant-loop-part : goal.invariant-loop-part
invariant-loop-part l = Reading l.arena.shape l.object l.fn.pass l.part l.value l.pass
