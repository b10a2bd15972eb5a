use Rattle.place_core.proofs.ShapeWords.{word_other}
use Rattle.place_core.proofs.shape_laws.entry_leaves_word.Goals as goal

pub returns : goal.returns
returns c = word_other
