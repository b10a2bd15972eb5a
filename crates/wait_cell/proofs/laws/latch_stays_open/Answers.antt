use Rattle.wait_cell.proofs.Counting.{latch_stays_open}
use Rattle.wait_cell.proofs.laws.latch_stays_open.Goals as goal

pub returns : goal.returns
returns c = latch_stays_open
