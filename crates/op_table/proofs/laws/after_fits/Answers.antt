use Rattle.op_table.proofs.Rows.{after_fits}
use Rattle.op_table.proofs.laws.after_fits.Goals as goal

pub returns : goal.returns
returns c = after_fits
