use Rattle.target_desc.proofs.Readings.{reading_is_spelling}
use Rattle.target_desc.proofs.laws.reading_is_spelling.Goals as goal

pub returns : goal.returns
returns c = reading_is_spelling
