use Rattle.layout_plan.proofs.LaidObjects.{laid_has_cells}
use Rattle.layout_plan.proofs.laws.laid_has_cells.Goals as goal

pub returns : goal.returns
returns c = laid_has_cells
