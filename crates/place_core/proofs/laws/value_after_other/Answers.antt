use Rattle.place_core.proofs.CellValues.{value_of-other}
use Rattle.place_core.proofs.laws.value_after_other.Goals as goal

pub returns : goal.returns
returns c = value_of-other
