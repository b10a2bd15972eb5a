use Rattle.op_table.proofs.Rows.{call_has_operation}
use Rattle.op_table.proofs.laws.call_has_operation.Goals as goal

pub returns : goal.returns
returns c = call_has_operation
