use Rattle.op_table.proofs.ShortWords.{operation_word_is_short}
use Rattle.op_table.proofs.laws.operation_word_is_short.Goals as goal

pub returns : goal.returns
returns c = operation_word_is_short
