use Rattle.place_core.proofs.FreeBits.{free_bit_is_zero}
use Rattle.place_core.proofs.laws.words.free_bit_is_zero.Goals as goal

pub returns : goal.returns
returns c = free_bit_is_zero
