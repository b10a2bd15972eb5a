use Rattle.work_lang.proofs.Spelled.{spells_one}
use Rattle.work_lang.proofs.laws.spells_one.Goals as goal

pub returns : goal.returns
returns c = spells_one
