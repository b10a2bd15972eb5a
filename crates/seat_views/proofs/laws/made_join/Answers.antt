use Rattle.seat_views.proofs.Making.{made_join}
use Rattle.seat_views.proofs.laws.made_join.Goals as goal

pub returns : goal.returns
returns c = made_join
