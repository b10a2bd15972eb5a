use Rattle.work_lang.proofs.Spelled.{one_reading}
use Rattle.work_lang.proofs.laws.each_text_has_one_reading.Goals as goal

pub returns : goal.returns
returns c = one_reading
