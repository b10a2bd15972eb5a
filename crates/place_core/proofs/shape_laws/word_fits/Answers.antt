use Rattle.place_core.proofs.ShapeWords.{word_below}
use Rattle.place_core.proofs.shape_laws.word_fits.Goals as goal

pub returns : goal.returns
returns c = word_below
