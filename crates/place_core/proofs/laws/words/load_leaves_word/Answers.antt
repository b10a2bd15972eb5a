use Rattle.place_core.proofs.WordEntries.{load_leaves_word}
use Rattle.place_core.proofs.laws.words.load_leaves_word.Goals as goal

pub returns : goal.returns
returns c = load_leaves_word
