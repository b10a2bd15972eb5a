use Rattle.seat_views.proofs.PathCounts.{weak_path_is_two_items}
use Rattle.seat_views.proofs.laws.weak_path_is_two_items.Goals as goal

pub returns : goal.returns
returns c = weak_path_is_two_items
