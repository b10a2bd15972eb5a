use Rattle.seat_views.proofs.PathWords.{parts_steps_stay}
use Rattle.seat_views.proofs.laws.parts_steps_stay.Goals as goal

pub returns : goal.returns
returns c = parts_steps_stay
