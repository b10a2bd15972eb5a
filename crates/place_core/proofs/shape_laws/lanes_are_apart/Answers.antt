use Rattle.place_core.proofs.PlaceLaws.{lanes_are_apart}
use Rattle.place_core.proofs.shape_laws.lanes_are_apart.Goals as goal

pub returns : goal.returns
returns c = lanes_are_apart
