use Rattle.update_table.proofs.MoveLaws.{cycle_takes_next}
use Rattle.update_table.proofs.laws.cycle_takes_next.Goals as goal

pub returns : goal.returns
returns c = cycle_takes_next
