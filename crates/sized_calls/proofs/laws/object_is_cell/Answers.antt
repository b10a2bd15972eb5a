use Rattle.sized_calls.proofs.CellPlaces.{object_is_cell}
use Rattle.sized_calls.proofs.laws.object_is_cell.Goals as goal

pub returns : goal.returns
returns c = object_is_cell
