use Rattle.place_core.proofs.ShapeWords.{sole_word}
use Rattle.place_core.proofs.shape_laws.sole_word_is_value.Goals as goal

pub returns : goal.returns
returns c = sole_word
