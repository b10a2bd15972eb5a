use Rattle.target_desc.proofs.Rows.{named_is_of_version}
use Rattle.target_desc.proofs.laws.named_is_of_version.Goals as goal

pub returns : goal.returns
returns c = named_is_of_version
