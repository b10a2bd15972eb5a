use Rattle.seat_views.proofs.PathCounts.{wide_load_stores_none}
use Rattle.seat_views.proofs.laws.wide_load_stores_none.Goals as goal

pub returns : goal.returns
returns c = wide_load_stores_none
