use Rattle.target_desc.proofs.Readings.{spells_one}
use Rattle.target_desc.proofs.laws.spells_one.Goals as goal

pub returns : goal.returns
returns c = spells_one
