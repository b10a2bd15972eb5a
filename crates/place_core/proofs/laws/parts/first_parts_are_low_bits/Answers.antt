use Rattle.place_core.proofs.PartSums.{first_parts_are_low_bits}
use Rattle.place_core.proofs.laws.parts.first_parts_are_low_bits.Goals as goal

pub returns : goal.returns
returns c = first_parts_are_low_bits
