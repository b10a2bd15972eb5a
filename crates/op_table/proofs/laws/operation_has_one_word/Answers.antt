use Rattle.op_table.proofs.WordTables.{operation_has_one_word}
use Rattle.op_table.proofs.laws.operation_has_one_word.Goals as goal

pub returns : goal.returns
returns c = operation_has_one_word
