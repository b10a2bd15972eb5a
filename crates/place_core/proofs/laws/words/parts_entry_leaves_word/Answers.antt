use Rattle.place_core.proofs.WordEntries.{parts_entry_leaves_word}
use Rattle.place_core.proofs.laws.words.parts_entry_leaves_word.Goals as goal

pub returns : goal.returns
returns c = parts_entry_leaves_word
