use Rattle.place_core.proofs.PartSums.{parts_suffice}
use Rattle.place_core.proofs.laws.parts.parts_suffice.Goals as goal

pub returns : goal.returns
returns c = parts_suffice
