use Rattle.update_table.proofs.MoveLaws.{values_stay_in_range}
use Rattle.update_table.proofs.laws.values_stay_in_range.Goals as goal

pub returns : goal.returns
returns c = values_stay_in_range
