use Rattle.wait_cell.proofs.Counting.{permits_are_kept}
use Rattle.wait_cell.proofs.laws.permits_are_kept.Goals as goal

pub returns : goal.returns
returns c = permits_are_kept
