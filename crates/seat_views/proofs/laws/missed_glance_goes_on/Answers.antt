use Rattle.seat_views.proofs.PathPieces.{missed_glance_goes_on}
use Rattle.seat_views.proofs.laws.missed_glance_goes_on.Goals as goal

pub returns : goal.returns
returns c = missed_glance_goes_on
