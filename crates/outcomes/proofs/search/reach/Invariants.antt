-- What is kept, and that each state to try takes one off the room for states whose choices were all tried.
use Rattle.std.proofs.Common.{◌-◌}
use Rattle.std.specs.BTreeSet.{btree_set_len}
use Rattle.outcomes.specs.Keeping.{IsSearching}
use Rattle.outcomes.proofs.search.reach.Given as goal

abbrev pub invariant-loop-state : goal.invariant-loop-state
invariant-loop-state g l = IsSearching g.M.State.Ord.cmp (g.M.Stepping.choices l.machine) (g.M.Stepping.after l.machine) l.fn.start l.limit l.done l.left

abbrev pub decreases-loop-state : goal.decreases-loop-state
decreases-loop-state g l = l.limit - btree_set_len l.done
