use Rattle.wide_cell.specs.Looks.{Looking}
use Rattle.wide_cell.proofs.look.glance.Given as goal

abbrev pub invariant-loop-part : goal.invariant-loop-part
invariant-loop-part l = Looking l.arena.shape l.object l.fn.pass l.part l.pass
