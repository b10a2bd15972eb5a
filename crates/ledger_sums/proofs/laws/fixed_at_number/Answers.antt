use Rattle.ledger_sums.proofs.Tallying.{fixed_values_of-at}
use Rattle.ledger_sums.proofs.laws.fixed_at_number.Goals as goal

pub returns : goal.returns
returns c = fixed_values_of-at
