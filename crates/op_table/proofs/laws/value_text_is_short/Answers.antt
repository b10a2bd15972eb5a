use Rattle.op_table.proofs.ValueTexts.{value_text_is_short}
use Rattle.op_table.proofs.laws.value_text_is_short.Goals as goal

pub returns : goal.returns
returns c = value_text_is_short
