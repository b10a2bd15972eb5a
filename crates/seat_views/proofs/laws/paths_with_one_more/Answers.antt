use Rattle.seat_views.proofs.PathEating.{paths_with_one_more}
use Rattle.seat_views.proofs.laws.paths_with_one_more.Goals as goal

pub returns : goal.returns
returns c = paths_with_one_more
