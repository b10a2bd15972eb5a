use Rattle.op_table.proofs.CallKinds.{only_exchanges_fail}
use Rattle.op_table.proofs.laws.only_exchanges_fail.Goals as goal

pub returns : goal.returns
returns c = only_exchanges_fail
