use Rattle.update_table.proofs.MoveLaws.{raised_never_falls}
use Rattle.update_table.proofs.laws.raised_never_falls.Goals as goal

pub returns : goal.returns
returns c = raised_never_falls
