use Rattle.work_lang.proofs.Spelled.{spelling}
use Rattle.work_lang.proofs.laws.reading_is_spelling.Goals as goal

pub returns : goal.returns
returns c = spelling
