use Rattle.work_lang.proofs.Cuts.{open_by_last}
use Rattle.work_lang.proofs.laws.open_by_last_line.Goals as goal

pub returns : goal.returns
returns c = open_by_last
