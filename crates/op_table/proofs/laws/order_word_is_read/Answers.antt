use Rattle.op_table.proofs.WordTables.{order_word_is_read}
use Rattle.op_table.proofs.laws.order_word_is_read.Goals as goal

pub returns : goal.returns
returns c = order_word_is_read
