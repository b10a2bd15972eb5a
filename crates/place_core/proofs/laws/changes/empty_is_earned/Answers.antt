use Rattle.place_core.proofs.Earning.{empty_is_earned}
use Rattle.place_core.proofs.laws.changes.empty_is_earned.Goals as goal

pub returns : goal.returns
returns c = empty_is_earned
