use Rattle.seat_views.proofs.PathCounts.{take_follows_missed_look}
use Rattle.seat_views.proofs.laws.take_follows_missed_look.Goals as goal

pub returns : goal.returns
returns c = take_follows_missed_look
