use Rattle.op_table.proofs.CallKinds.{load_keeps_value}
use Rattle.op_table.proofs.laws.load_keeps_value.Goals as goal

pub returns : goal.returns
returns c = load_keeps_value
