-- The longest of all is the longer of that so far and of the longest of the rest.
use Rattle.std.proofs.Common.{◌≡◌, length, map}
use Rattle.std.specs.Prelude.{max}
use Rattle.place_core.specs.Pieces.{script_lines}
use Rattle.run_outcomes.specs.Outcomes.{longest}
use Rattle.run_outcomes.proofs.search.longest.Given as goal

abbrev pub invariant-scripts : goal.invariant-scripts
invariant-scripts l = max l.most (longest (map script_lines l.rest)) ≡ longest (map script_lines l.scripts)

abbrev pub decreases-scripts : goal.decreases-scripts
decreases-scripts l = length l.rest
