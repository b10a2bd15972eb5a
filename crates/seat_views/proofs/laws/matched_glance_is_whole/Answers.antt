use Rattle.seat_views.proofs.PathCounts.{matched_glance_is_whole}
use Rattle.seat_views.proofs.laws.matched_glance_is_whole.Goals as goal

pub returns : goal.returns
returns c = matched_glance_is_whole
