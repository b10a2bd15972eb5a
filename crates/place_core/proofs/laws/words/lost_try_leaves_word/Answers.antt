use Rattle.place_core.proofs.WordEntries.{lost_try_leaves_word}
use Rattle.place_core.proofs.laws.words.lost_try_leaves_word.Goals as goal

pub returns : goal.returns
returns c = lost_try_leaves_word
