use Rattle.update_table.proofs.MoveLaws.{refused_is_exact}
use Rattle.update_table.proofs.laws.refused_is_exact.Goals as goal

pub returns : goal.returns
returns c = refused_is_exact
