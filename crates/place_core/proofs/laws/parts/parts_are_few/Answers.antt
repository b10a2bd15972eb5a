use Rattle.place_core.proofs.PartSums.{parts_are_few}
use Rattle.place_core.proofs.laws.parts.parts_are_few.Goals as goal

pub returns : goal.returns
returns c = parts_are_few
