use Rattle.place_core.specs.Pieces.{script_lines}
use Rattle.runner.proofs.Running.{RanSoFar}
use Rattle.runner.proofs.scripts.run_script.Given as goal

abbrev pub invariant-loop-done : goal.invariant-loop-done
invariant-loop-done g l = RanSoFar l.arena.shape (script_lines l.script) l.lines l.done l.fn.pass l.fn.replies l.replies l.pass
