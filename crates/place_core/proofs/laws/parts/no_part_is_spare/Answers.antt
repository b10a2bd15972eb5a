use Rattle.place_core.proofs.PartSums.{no_part_is_spare}
use Rattle.place_core.proofs.laws.parts.no_part_is_spare.Goals as goal

pub returns : goal.returns
returns c = no_part_is_spare
