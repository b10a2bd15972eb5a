use Rattle.work_lang.proofs.Spelled.{canonical_read}
use Rattle.work_lang.proofs.laws.canonical_is_read.Goals as goal

pub returns : goal.returns
returns c = canonical_read
