use Rattle.place_core.proofs.Earning.{nothing_earns_none}
use Rattle.place_core.proofs.laws.changes.nothing_earns_none.Goals as goal

pub returns : goal.returns
returns c = nothing_earns_none
