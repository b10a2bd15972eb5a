use Rattle.place_core.proofs.OtherBits.{step_leaves_free_bits}
use Rattle.place_core.proofs.laws.words.step_leaves_free_bits.Goals as goal

pub returns : goal.returns
returns c = step_leaves_free_bits
