use Rattle.place_core.proofs.PartSums.{parts_join_to_value}
use Rattle.place_core.proofs.laws.parts.parts_join_to_value.Goals as goal

pub returns : goal.returns
returns c = parts_join_to_value
