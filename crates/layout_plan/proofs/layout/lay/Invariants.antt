use Rattle.std.proofs.Common.{◌≡◌, ◌+◌, ◌*◌, ◌≤◌, ◌++◌, length}
use Rattle.layout_plan.specs.Layout.{objects_from, end_from}
use Rattle.layout_plan.proofs.layout.lay.Given as goal

-- what was laid, and what the others add, is the whole layout
abbrev pub invariant-objects : goal.invariant-objects
invariant-objects l = record {
  laid : l.laid.items ++ objects_from l.target l.after l.rest ≡ objects_from l.target 0 l.objects;
  last : end_from l.target l.after l.rest ≡ end_from l.target 0 l.objects;
  room : l.after + 32 * length l.rest ≤ 32 * length l.objects;
}

abbrev pub decreases-objects : goal.decreases-objects
decreases-objects l = length l.rest
