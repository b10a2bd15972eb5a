use Rattle.seat_views.proofs.PathCounts.{moved_glance_takes}
use Rattle.seat_views.proofs.laws.moved_glance_takes.Goals as goal

pub returns : goal.returns
returns c = moved_glance_takes
