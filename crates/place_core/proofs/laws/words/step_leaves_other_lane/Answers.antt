use Rattle.place_core.proofs.OtherBits.{step_leaves_other_lane}
use Rattle.place_core.proofs.laws.words.step_leaves_other_lane.Goals as goal

pub returns : goal.returns
returns c = step_leaves_other_lane
