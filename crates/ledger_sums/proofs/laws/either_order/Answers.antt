use Rattle.ledger_sums.proofs.LastValues.{either_order_of_two}
use Rattle.ledger_sums.proofs.laws.either_order.Goals as goal

pub returns : goal.returns
returns c = either_order_of_two
