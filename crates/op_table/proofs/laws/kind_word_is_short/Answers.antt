use Rattle.op_table.proofs.ShortWords.{kind_word_is_short}
use Rattle.op_table.proofs.laws.kind_word_is_short.Goals as goal

pub returns : goal.returns
returns c = kind_word_is_short
