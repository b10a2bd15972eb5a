use Rattle.place_core.proofs.PartSums.{joined_has_its_parts}
use Rattle.place_core.proofs.laws.parts.joined_has_its_parts.Goals as goal

pub returns : goal.returns
returns c = joined_has_its_parts
