use Rattle.place_core.proofs.OtherBits.{replaced_leaves_other_bits}
use Rattle.place_core.proofs.laws.words.replaced_leaves_other_bits.Goals as goal

pub returns : goal.returns
returns c = replaced_leaves_other_bits
