use Rattle.op_table.proofs.WordTables.{kind_word_is_read}
use Rattle.op_table.proofs.laws.kind_word_is_read.Goals as goal

pub returns : goal.returns
returns c = kind_word_is_read
