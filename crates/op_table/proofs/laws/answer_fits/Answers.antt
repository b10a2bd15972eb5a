use Rattle.op_table.proofs.Rows.{answer_fits}
use Rattle.op_table.proofs.laws.answer_fits.Goals as goal

pub returns : goal.returns
returns c = answer_fits
