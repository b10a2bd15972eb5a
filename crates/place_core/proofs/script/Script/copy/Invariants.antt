use Rattle.std.proofs.Common.{◌≡◌, ◌++◌, length}
use Rattle.place_core.proofs.script.Script.copy.Given as goal

-- the pieces so far and those that are left
abbrev pub invariant-pieces : goal.invariant-pieces
invariant-pieces l = l.pieces.items ++ l.rest ≡ l.self-inside.pieces.items

abbrev pub decreases-pieces : goal.decreases-pieces
decreases-pieces l = length l.rest
