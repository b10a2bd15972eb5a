use Rattle.place_core.proofs.Earning.{parts_earn_none}
use Rattle.place_core.proofs.laws.changes.parts_earn_none.Goals as goal

pub returns : goal.returns
returns c = parts_earn_none
