use Rattle.any_size.proofs.WholeLaws.{value_is_whole}
use Rattle.any_size.proofs.laws.value_is_whole.Goals as goal

pub returns : goal.returns
returns c = value_is_whole
