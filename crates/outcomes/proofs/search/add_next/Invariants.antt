-- Of the choices so far, the states that were new were added, and each state that they lead to is kept.
use Rattle.std.proofs.Common.{◌+◌, ◌≤◌}
use Rattle.std.specs.BTreeSet.{btree_set_len}
use Rattle.outcomes.specs.Keeping.{Adds, KeepsAll}
use Rattle.outcomes.proofs.search.add_next.Given as goal

abbrev pub invariant-loop-choice : goal.invariant-loop-choice
invariant-loop-choice g l = record {
  adds : Adds g.M.State.Ord.cmp (g.M.Stepping.after l.machine) l.choice l.state l.done l.initial.left l.left;
  within : btree_set_len l.done + btree_set_len l.left + 1 ≤ l.limit;
  all : KeepsAll g.M.State.Ord.cmp (g.M.Stepping.after l.machine) l.choice l.state l.done l.left;
}
