use Rattle.op_table.proofs.WordTables.{order_has_one_word}
use Rattle.op_table.proofs.laws.order_has_one_word.Goals as goal

pub returns : goal.returns
returns c = order_has_one_word
