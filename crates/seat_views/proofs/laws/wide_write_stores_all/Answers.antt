use Rattle.seat_views.proofs.PathCounts.{wide_write_stores_all}
use Rattle.seat_views.proofs.laws.wide_write_stores_all.Goals as goal

pub returns : goal.returns
returns c = wide_write_stores_all
