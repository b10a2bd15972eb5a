use Rattle.std.proofs.Common.{◌≡◌, map, take, length}
use Rattle.std.specs.Int.{w64, to_le_bytes}
use Rattle.any_size.proofs.block.Block64.words.Given as goal

abbrev pub invariant-loop-i : goal.invariant-loop-i
invariant-loop-i l = (length l.words ≡ 8) × (map (to_le_bytes w64) (take l.i l.words) ≡ take l.i l.parts)
