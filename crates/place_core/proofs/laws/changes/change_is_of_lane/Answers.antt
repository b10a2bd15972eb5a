use Rattle.place_core.proofs.Earning.{change_is_of_lane}
use Rattle.place_core.proofs.laws.changes.change_is_of_lane.Goals as goal

pub returns : goal.returns
returns c = change_is_of_lane
