use Rattle.place_core.proofs.PlaceLaws.{place_is_within}
use Rattle.place_core.proofs.shape_laws.place_is_within.Goals as goal

pub returns : goal.returns
returns c = place_is_within
