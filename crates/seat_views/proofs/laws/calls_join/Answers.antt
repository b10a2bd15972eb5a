use Rattle.seat_views.proofs.Making.{calls_join}
use Rattle.seat_views.proofs.laws.calls_join.Goals as goal

pub returns : goal.returns
returns c = calls_join
