use Rattle.std.proofs.Common.{arith, rules}
use Rattle.sized_calls.proofs.CellShapes.{walk_begins, walk_more, walk_is_shape}
use Rattle.sized_calls.proofs.cells.cell_shape.Goals as goal

pub cells-init : goal.cells-init
cells-init c = walk_begins c.args.target.now c.args.cells.now _ c.new-laid.ensures.items c.requires.none

-- one more cell is laid
pub cells-preserved : goal.cells-preserved
cells-preserved c = walk_more _ _ _ _ _ _ c.cells.rest.now (record { address = 0; size = 0; start = 0 }) (omega arith) (search rules) (search rules) c.cells.invariant

-- no cell is left
pub returns-clause-valid : goal.returns-clause-valid
returns-clause-valid c = walk_is_shape c.args.target.now c.args.cells.now c.cells.rest.now c.cells.end _ c.cells.laid.items _ (omega arith) c.cells.invariant c.words_for.ensures c.of.ensures c.requires.target c.requires.packed c.requires.most c.requires.none
