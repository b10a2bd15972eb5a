use Rattle.place_core.proofs.LegalValues.{value_fits}
use Rattle.place_core.proofs.shape_laws.value_fits.Goals as goal

pub returns : goal.returns
returns c = value_fits
