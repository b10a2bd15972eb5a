use Rattle.seat_views.proofs.Making.{nothing_makes_none}
use Rattle.seat_views.proofs.laws.nothing_makes_none.Goals as goal

pub returns : goal.returns
returns c = nothing_makes_none
