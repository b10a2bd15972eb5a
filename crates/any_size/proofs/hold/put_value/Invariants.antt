use Rattle.std.proofs.Common.{take}
use Rattle.any_size.specs.Calls.{Putting}
use Rattle.any_size.proofs.hold.put_value.Given as goal

abbrev pub invariant-loop-i : goal.invariant-loop-i
invariant-loop-i l = Putting l.blocks l.object l.fn.pass (take l.i l.words) l.pass
