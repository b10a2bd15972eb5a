use Rattle.seat_views.proofs.PathEating.{paths_stretch}
use Rattle.seat_views.proofs.laws.paths_stretch.Goals as goal

pub returns : goal.returns
returns c = paths_stretch
