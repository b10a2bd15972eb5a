use Rattle.work_lang.proofs.Cuts.{cut_is_read}
use Rattle.work_lang.proofs.laws.cut_text_is_read.Goals as goal

pub returns : goal.returns
returns c = cut_is_read
