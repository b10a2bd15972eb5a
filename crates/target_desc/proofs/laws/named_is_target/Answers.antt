use Rattle.target_desc.proofs.Rows.{named_is_target}
use Rattle.target_desc.proofs.laws.named_is_target.Goals as goal

pub returns : goal.returns
returns c = named_is_target
