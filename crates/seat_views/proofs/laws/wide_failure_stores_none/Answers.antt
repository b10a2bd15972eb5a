use Rattle.seat_views.proofs.PathCounts.{wide_failure_stores_none}
use Rattle.seat_views.proofs.laws.wide_failure_stores_none.Goals as goal

pub returns : goal.returns
returns c = wide_failure_stores_none
