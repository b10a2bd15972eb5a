use Rattle.seat_views.proofs.PathEating.{paths_join}
use Rattle.seat_views.proofs.laws.paths_join.Goals as goal

pub returns : goal.returns
returns c = paths_join
