use Rattle.std.proofs.Common.{◌≡◌, ◌<◌, length, slice_get}
use Rattle.place_core.specs.Pieces.{script_lines}
use Rattle.place_core.proofs.script.Script.at.Given as goal

-- the line is among those of the pieces that are left
abbrev pub invariant-pieces : goal.invariant-pieces
invariant-pieces l = record {
  within : l.left < length (script_lines l.rest);
  same : slice_get (script_lines l.rest) l.left ≡ slice_get (script_lines l.self) l.i;
}

abbrev pub decreases-pieces : goal.decreases-pieces
decreases-pieces l = length l.rest
