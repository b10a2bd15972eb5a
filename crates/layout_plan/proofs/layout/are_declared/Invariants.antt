use Rattle.std.proofs.Common.{◌↔◌, length}
use Rattle.layout_plan.specs.Layout.{AreDeclared}
use Rattle.layout_plan.proofs.layout.are_declared.Given as goal

-- all objects are declared where those that are left are
abbrev pub invariant-objects : goal.invariant-objects
invariant-objects l = AreDeclared l.objects ↔ AreDeclared l.rest

abbrev pub decreases-objects : goal.decreases-objects
decreases-objects l = length l.rest
