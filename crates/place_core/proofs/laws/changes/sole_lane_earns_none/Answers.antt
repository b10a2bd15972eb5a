use Rattle.place_core.proofs.Earning.{sole_lane_earns_none}
use Rattle.place_core.proofs.laws.changes.sole_lane_earns_none.Goals as goal

pub returns : goal.returns
returns c = sole_lane_earns_none
