use Rattle.place_core.proofs.ShapeWords.{lane_is}
use Rattle.place_core.proofs.shape_laws.lane_holds_value.Goals as goal

pub returns : goal.returns
returns c = lane_is
