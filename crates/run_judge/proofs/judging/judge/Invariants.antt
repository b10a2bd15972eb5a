-- Those left are states of agreeing beginnings, and each that shows the report is left.
use Rattle.std.proofs.Common.{map}
use Rattle.std.specs.BTreeSet.{btree_set_len}
use Rattle.place_core.specs.Pieces.{script_lines}
use Rattle.run_judge.specs.Reports.{items_of}
use Rattle.run_judge.specs.Judging.{IsLooking}
use Rattle.run_judge.proofs.judging.judge.Given as goal

abbrev pub invariant-states : goal.invariant-states
invariant-states l = IsLooking l.shape (map script_lines l.scripts) 0 (items_of l.replies) l.last.items l.states

abbrev pub decreases-states : goal.decreases-states
decreases-states l = btree_set_len l.states
