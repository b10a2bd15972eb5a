use Rattle.place_core.proofs.ShapeWords.{word_same}
use Rattle.place_core.proofs.shape_laws.entry_replaces_lane.Goals as goal

pub returns : goal.returns
returns c = word_same
