use Rattle.place_core.proofs.LegalValues.{value_start}
use Rattle.place_core.proofs.shape_laws.value_at_shape_start.Goals as goal

pub returns : goal.returns
returns c = value_start
