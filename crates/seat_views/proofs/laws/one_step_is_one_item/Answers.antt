use Rattle.seat_views.proofs.PathCounts.{one_step_is_one_item}
use Rattle.seat_views.proofs.laws.one_step_is_one_item.Goals as goal

pub returns : goal.returns
returns c = one_step_is_one_item
