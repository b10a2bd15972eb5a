use Rattle.std.proofs.Common.{◌↔◌, length}
use Rattle.std.specs.List.{AllByRecursion}
use Rattle.place_core.specs.Validity.{IsObject}
use Rattle.place_core.proofs.valid.are_objects.Given as goal

-- those before `rest` passed
abbrev pub invariant-objects : goal.invariant-objects
invariant-objects l = AllByRecursion (IsObject l.shape) l.rest ↔ AllByRecursion (IsObject l.shape) l.objects

abbrev pub decreases-objects : goal.decreases-objects
decreases-objects l = length l.rest
