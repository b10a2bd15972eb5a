use Rattle.op_table.proofs.WordTables.{operation_word_is_read}
use Rattle.op_table.proofs.laws.operation_word_is_read.Goals as goal

pub returns : goal.returns
returns c = operation_word_is_read
