use Rattle.place_core.proofs.PartSums.{equal_parts_are_of_one_value}
use Rattle.place_core.proofs.laws.parts.equal_parts_are_of_one_value.Goals as goal

pub returns : goal.returns
returns c = equal_parts_are_of_one_value
