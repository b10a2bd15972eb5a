use Rattle.seat_views.proofs.PathPieces.{glance_is_short}
use Rattle.seat_views.proofs.laws.glance_is_short.Goals as goal

pub returns : goal.returns
returns c = glance_is_short
