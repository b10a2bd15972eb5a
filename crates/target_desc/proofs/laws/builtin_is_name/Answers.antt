use Rattle.target_desc.proofs.Rows.{builtin_is_name}
use Rattle.target_desc.proofs.laws.builtin_is_name.Goals as goal

pub returns : goal.returns
returns c = builtin_is_name
