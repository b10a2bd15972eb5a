-- The calls so far are lines of the script, and fit.
use Rattle.std.proofs.Common.{length}
use Rattle.place_core.specs.Pieces.{script_lines}
use Rattle.place_core.specs.Runs.{ScriptFits}
use Rattle.place_core.specs.Shapes.{cells_of_shape}
use Rattle.run_judge.proofs.tests.script_of.Given as goal

abbrev pub invariant-calls : goal.invariant-calls
invariant-calls l = ScriptFits (cells_of_shape l.shape) (script_lines l.script)

abbrev pub decreases-calls : goal.decreases-calls
decreases-calls l = length l.rest
