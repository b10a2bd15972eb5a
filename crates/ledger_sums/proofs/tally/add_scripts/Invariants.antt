use Rattle.std.proofs.Common.{◌≡◌, length, map}
use Rattle.place_core.specs.Pieces.{script_lines}
use Rattle.place_core.specs.Runs.{ScriptsFit}
use Rattle.place_core.specs.Shapes.{cells_of_shape}
use Rattle.ledger_sums.specs.Tallies.{tallies_end, AreTallies}
use Rattle.ledger_sums.proofs.tally.add_scripts.Given as goal

-- the scripts that are left make of these tallies what all scripts make of the first
abbrev pub invariant-scripts : goal.invariant-scripts
invariant-scripts l = record {
  fits : ScriptsFit (cells_of_shape l.shape) (map script_lines l.rest);
  tallies : AreTallies l.shape l.tallies;
  after : tallies_end l.shape l.tallies (map script_lines l.rest) ≡ tallies_end l.shape l.fn.tallies (map script_lines l.scripts);
}

abbrev pub decreases-scripts : goal.decreases-scripts
decreases-scripts l = length l.rest
