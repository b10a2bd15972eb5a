use Rattle.op_table.proofs.CallKinds.{unwritten_keeps_value}
use Rattle.op_table.proofs.laws.unwritten_keeps_value.Goals as goal

pub returns : goal.returns
returns c = unwritten_keeps_value
