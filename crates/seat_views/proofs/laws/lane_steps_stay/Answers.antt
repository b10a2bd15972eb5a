use Rattle.seat_views.proofs.PathWords.{lane_steps_stay}
use Rattle.seat_views.proofs.laws.lane_steps_stay.Goals as goal

pub returns : goal.returns
returns c = lane_steps_stay
