use Rattle.place_core.proofs.FreeBits.{free_bits_are_zero}
use Rattle.place_core.proofs.laws.words.free_bits_are_zero.Goals as goal

pub returns : goal.returns
returns c = free_bits_are_zero
