use Rattle.std.proofs.Common.{◌↔◌, length}
use Rattle.std.specs.List.{AllByRecursion}
use Rattle.place_core.specs.Validity.{IsObject, AreFree}
use Rattle.place_core.proofs.valid.are_free.Given as goal

-- those before `rest` passed
abbrev pub invariant-objects : goal.invariant-objects
invariant-objects l = record {
  objects : AllByRecursion (IsObject l.shape) l.rest;
  free : AreFree l.rest l.row ↔ AreFree l.objects l.row;
}

abbrev pub decreases-objects : goal.decreases-objects
decreases-objects l = length l.rest
