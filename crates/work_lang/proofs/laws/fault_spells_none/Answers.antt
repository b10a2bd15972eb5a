use Rattle.work_lang.proofs.Spelled.{spells_none}
use Rattle.work_lang.proofs.laws.fault_spells_none.Goals as goal

pub returns : goal.returns
returns c = spells_none
