use Rattle.seat_views.proofs.PathCounts.{wide_load_stamps_first}
use Rattle.seat_views.proofs.laws.wide_load_stamps_first.Goals as goal

pub returns : goal.returns
returns c = wide_load_stamps_first
