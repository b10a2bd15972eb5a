use Rattle.ledger_sums.proofs.LastValues.{fixed_is_last}
use Rattle.ledger_sums.proofs.laws.fixed_is_last.Goals as goal

pub returns : goal.returns
returns c = fixed_is_last
