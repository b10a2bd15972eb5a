use Rattle.layout_plan.proofs.LaidObjects.{lane_is_narrow}
use Rattle.layout_plan.proofs.laws.lane_is_narrow.Goals as goal

pub returns : goal.returns
returns c = lane_is_narrow
