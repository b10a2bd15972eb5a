use Rattle.op_table.proofs.ValueTexts.{value_has_one_text}
use Rattle.op_table.proofs.laws.value_has_one_text.Goals as goal

pub returns : goal.returns
returns c = value_has_one_text
