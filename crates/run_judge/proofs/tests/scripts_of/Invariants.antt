-- The scripts so far fit.
use Rattle.std.proofs.Common.{length, map}
use Rattle.place_core.specs.Pieces.{script_lines}
use Rattle.place_core.specs.Runs.{ScriptsFit}
use Rattle.place_core.specs.Shapes.{cells_of_shape}
use Rattle.run_judge.proofs.tests.scripts_of.Given as goal

abbrev pub invariant-threads : goal.invariant-threads
invariant-threads l = ScriptsFit (cells_of_shape l.shape) (map script_lines l.scripts.items)

abbrev pub decreases-threads : goal.decreases-threads
decreases-threads l = length l.rest
