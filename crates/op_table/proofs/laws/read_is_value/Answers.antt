use Rattle.op_table.proofs.ValueTexts.{read_is_value}
use Rattle.op_table.proofs.laws.read_is_value.Goals as goal

pub returns : goal.returns
returns c = read_is_value
