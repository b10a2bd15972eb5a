use Rattle.seat_views.proofs.PathCounts.{section_load_stores_none}
use Rattle.seat_views.proofs.laws.section_load_stores_none.Goals as goal

pub returns : goal.returns
returns c = section_load_stores_none
