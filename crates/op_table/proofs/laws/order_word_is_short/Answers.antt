use Rattle.op_table.proofs.ShortWords.{order_word_is_short}
use Rattle.op_table.proofs.laws.order_word_is_short.Goals as goal

pub returns : goal.returns
returns c = order_word_is_short
