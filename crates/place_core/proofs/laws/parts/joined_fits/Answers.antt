use Rattle.place_core.proofs.PartSums.{joined_fits}
use Rattle.place_core.proofs.laws.parts.joined_fits.Goals as goal

pub returns : goal.returns
returns c = joined_fits
