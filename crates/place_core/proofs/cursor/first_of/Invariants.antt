use Rattle.std.proofs.Common.{◌≡◌, length}
use Rattle.place_core.specs.Pieces.{script_lines}
use Rattle.place_core.proofs.cursor.first_of.Given as goal

-- the pieces that were passed over have no lines
abbrev pub invariant-pieces : goal.invariant-pieces
invariant-pieces l = script_lines l.rest ≡ script_lines l.pieces

abbrev pub decreases-pieces : goal.decreases-pieces
decreases-pieces l = length l.rest
