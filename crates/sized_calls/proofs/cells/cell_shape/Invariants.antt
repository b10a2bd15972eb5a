use Rattle.std.proofs.Common.{length}
use Rattle.sized_calls.proofs.CellShapes.{IsWalk}
use Rattle.sized_calls.proofs.cells.cell_shape.Given as goal

-- what was laid, and what the others add, is the whole shape
abbrev pub invariant-cells : goal.invariant-cells
invariant-cells l = IsWalk l.target l.cells l.laid.items l.end l.rest

abbrev pub decreases-cells : goal.decreases-cells
decreases-cells l = length l.rest
