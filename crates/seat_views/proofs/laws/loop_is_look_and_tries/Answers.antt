use Rattle.seat_views.proofs.PathCounts.{loop_is_look_and_tries}
use Rattle.seat_views.proofs.laws.loop_is_look_and_tries.Goals as goal

pub returns : goal.returns
returns c = loop_is_look_and_tries
