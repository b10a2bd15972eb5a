use Rattle.place_core.proofs.Earning.{earned_in_front}
use Rattle.place_core.proofs.laws.changes.earned_in_front.Goals as goal

pub returns : goal.returns
returns c = earned_in_front
