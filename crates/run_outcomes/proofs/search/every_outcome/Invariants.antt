-- Those left are states of beginnings of runs, and the outcomes of the others were found.
use Rattle.std.proofs.Common.{map}
use Rattle.std.specs.BTreeSet.{btree_set_len}
use Rattle.place_core.specs.Pieces.{script_lines}
use Rattle.run_outcomes.specs.Collecting.{IsCollecting}
use Rattle.run_outcomes.proofs.search.every_outcome.Given as goal

abbrev pub invariant-states : goal.invariant-states
invariant-states l = IsCollecting l.shape (map script_lines l.scripts) l.states l.found

abbrev pub decreases-states : goal.decreases-states
decreases-states l = btree_set_len l.states
