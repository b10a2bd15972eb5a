use Rattle.op_table.proofs.WordTables.{kind_has_its_words}
use Rattle.op_table.proofs.laws.kind_has_its_words.Goals as goal

pub returns : goal.returns
returns c = kind_has_its_words
