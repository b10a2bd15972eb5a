use Rattle.seat_views.proofs.PathCounts.{held_glance_takes}
use Rattle.seat_views.proofs.laws.held_glance_takes.Goals as goal

pub returns : goal.returns
returns c = held_glance_takes
