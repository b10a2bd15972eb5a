use Rattle.seat_views.proofs.PathEating.{one_path_is_paths}
use Rattle.seat_views.proofs.laws.one_path_is_paths.Goals as goal

pub returns : goal.returns
returns c = one_path_is_paths
