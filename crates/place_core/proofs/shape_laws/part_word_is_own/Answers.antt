use Rattle.place_core.proofs.PlaceLaws.{part_word_is_own}
use Rattle.place_core.proofs.shape_laws.part_word_is_own.Goals as goal

pub returns : goal.returns
returns c = part_word_is_own
