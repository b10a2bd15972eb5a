use Rattle.place_core.proofs.Earning.{earned_with_one_more}
use Rattle.place_core.proofs.laws.changes.earned_with_one_more.Goals as goal

pub returns : goal.returns
returns c = earned_with_one_more
