use Rattle.place_core.proofs.WordEntries.{kept_value_keeps_word}
use Rattle.place_core.proofs.laws.words.kept_value_keeps_word.Goals as goal

pub returns : goal.returns
returns c = kept_value_keeps_word
