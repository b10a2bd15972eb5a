use Rattle.place_core.proofs.CellValues.{value_of-start}
use Rattle.place_core.proofs.laws.value_at_start.Goals as goal

pub returns : goal.returns
returns c = value_of-start
