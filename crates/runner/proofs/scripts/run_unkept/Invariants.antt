use Rattle.place_core.specs.Pieces.{script_lines}
use Rattle.runner.proofs.Running.{RanUnkept}
use Rattle.runner.proofs.scripts.run_unkept.Given as goal

abbrev pub invariant-loop-done : goal.invariant-loop-done
invariant-loop-done g l = RanUnkept l.arena.shape (script_lines l.script) l.lines l.done l.fn.pass l.pass
