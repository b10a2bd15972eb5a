use Rattle.ledger_sums.proofs.ExactSums.{sum_is_exact}
use Rattle.ledger_sums.proofs.laws.sum_is_exact.Goals as goal

pub returns : goal.returns
returns c = sum_is_exact
