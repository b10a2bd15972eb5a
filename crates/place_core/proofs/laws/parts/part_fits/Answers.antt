use Rattle.place_core.proofs.PartSums.{part_fits}
use Rattle.place_core.proofs.laws.parts.part_fits.Goals as goal

pub returns : goal.returns
returns c = part_fits
