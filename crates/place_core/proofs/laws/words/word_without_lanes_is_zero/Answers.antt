use Rattle.place_core.proofs.FreeBits.{word_without_lanes}
use Rattle.place_core.proofs.laws.words.word_without_lanes_is_zero.Goals as goal

pub returns : goal.returns
returns c = word_without_lanes
