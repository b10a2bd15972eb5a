use Rattle.seat_views.proofs.PathEating.{no_calls_no_steps}
use Rattle.seat_views.proofs.laws.no_calls_no_steps.Goals as goal

pub returns : goal.returns
returns c = no_calls_no_steps
