use Rattle.std.proofs.Common.{◌≡◌, length}
use Rattle.place_core.specs.Pieces.{script_lines}
use Rattle.place_core.specs.Runs.{ScriptFits}
use Rattle.place_core.specs.Shapes.{cells_of_shape}
use Rattle.ledger_sums.specs.Tallies.{tallies_after, AreTallies}
use Rattle.ledger_sums.proofs.tally.add_script.Given as goal

-- the calls that are left make of these tallies what the whole script makes of the first
abbrev pub invariant-lines : goal.invariant-lines
invariant-lines l = record {
  fits : ScriptFits (cells_of_shape l.shape) l.lines;
  tallies : AreTallies l.shape l.tallies;
  after : tallies_after l.shape l.tallies l.lines ≡ tallies_after l.shape l.fn.tallies (script_lines l.script);
}

abbrev pub decreases-lines : goal.decreases-lines
decreases-lines l = length l.lines
