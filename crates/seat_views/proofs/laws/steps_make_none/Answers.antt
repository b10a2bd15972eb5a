use Rattle.seat_views.proofs.Making.{steps_make_none}
use Rattle.seat_views.proofs.laws.steps_make_none.Goals as goal

pub returns : goal.returns
returns c = steps_make_none
