use Rattle.std.proofs.Common.{◌≡◌, ◌++◌, length, map}
use Rattle.std.specs.List.{AllByRecursion}
use Rattle.place_core.specs.Validity.{IsObject}
use Rattle.layout_plan.specs.Plans.{is_sole_at, soles_of}
use Rattle.layout_plan.proofs.soles.soles_of.Given as goal

abbrev pub invariant-objects : goal.invariant-objects
invariant-objects l = record {
  objects : AllByRecursion (IsObject l.shape) l.rest;
  told : l.soles.items ++ map (λ a. is_sole_at l.shape a.place) l.rest ≡ soles_of l.shape;
}

abbrev pub decreases-objects : goal.decreases-objects
decreases-objects l = length l.rest
