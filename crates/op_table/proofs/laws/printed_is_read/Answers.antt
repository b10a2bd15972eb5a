use Rattle.op_table.proofs.ValueTexts.{printed_is_read}
use Rattle.op_table.proofs.laws.printed_is_read.Goals as goal

pub returns : goal.returns
returns c = printed_is_read
