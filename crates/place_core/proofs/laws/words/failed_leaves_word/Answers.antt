use Rattle.place_core.proofs.WordEntries.{failed_leaves_word}
use Rattle.place_core.proofs.laws.words.failed_leaves_word.Goals as goal

pub returns : goal.returns
returns c = failed_leaves_word
