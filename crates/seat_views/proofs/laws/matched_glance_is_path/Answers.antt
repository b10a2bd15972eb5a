use Rattle.seat_views.proofs.PathPieces.{matched_glance_is_path}
use Rattle.seat_views.proofs.laws.matched_glance_is_path.Goals as goal

pub returns : goal.returns
returns c = matched_glance_is_path
