use Rattle.target_desc.proofs.Readings.{read_is_target}
use Rattle.target_desc.proofs.laws.read_is_target.Goals as goal

pub returns : goal.returns
returns c = read_is_target
