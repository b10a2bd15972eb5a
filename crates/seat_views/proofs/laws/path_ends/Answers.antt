use Rattle.seat_views.proofs.PathEating.{path_ends}
use Rattle.seat_views.proofs.laws.path_ends.Goals as goal

pub returns : goal.returns
returns c = path_ends
