use Rattle.seq_lock.specs.Holds.{Putting}
use Rattle.seq_lock.proofs.holds.put_value.Given as goal

abbrev pub invariant-loop-part : goal.invariant-loop-part
invariant-loop-part l = Putting l.arena.shape l.object l.fn.pass l.new l.part l.pass
