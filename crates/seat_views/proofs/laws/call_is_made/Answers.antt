use Rattle.seat_views.proofs.Making.{call_is_made}
use Rattle.seat_views.proofs.laws.call_is_made.Goals as goal

pub returns : goal.returns
returns c = call_is_made
