use Rattle.seat_views.proofs.PathCounts.{refused_look_is_one_item}
use Rattle.seat_views.proofs.laws.refused_look_is_one_item.Goals as goal

pub returns : goal.returns
returns c = refused_look_is_one_item
