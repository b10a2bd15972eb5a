use Rattle.ledger_sums.proofs.LastValues.{fixed_is_last_of_shape}
use Rattle.ledger_sums.proofs.laws.fixed_is_last_of_shape.Goals as goal

pub returns : goal.returns
returns c = fixed_is_last_of_shape
