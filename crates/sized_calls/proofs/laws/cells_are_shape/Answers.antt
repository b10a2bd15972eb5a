use Rattle.sized_calls.proofs.CellPlaces.{cells_are}
use Rattle.sized_calls.proofs.laws.cells_are_shape.Goals as goal

pub returns : goal.returns
returns c = cells_are
