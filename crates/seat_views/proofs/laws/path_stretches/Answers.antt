use Rattle.seat_views.proofs.PathEating.{path_stretches}
use Rattle.seat_views.proofs.laws.path_stretches.Goals as goal

pub returns : goal.returns
returns c = path_stretches
