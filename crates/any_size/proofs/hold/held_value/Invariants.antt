use Rattle.any_size.specs.Calls.{Reading}
use Rattle.any_size.proofs.hold.held_value.Given as goal

abbrev pub invariant-loop-i : goal.invariant-loop-i
invariant-loop-i l = Reading l.blocks l.object l.fn.pass l.i l.words l.pass
