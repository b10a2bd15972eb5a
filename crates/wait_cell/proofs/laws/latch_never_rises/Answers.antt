use Rattle.wait_cell.proofs.Counting.{latch_never_rises}
use Rattle.wait_cell.proofs.laws.latch_never_rises.Goals as goal

pub returns : goal.returns
returns c = latch_never_rises
