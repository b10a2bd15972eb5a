use Rattle.std.proofs.Common.{◌≡◌, length}
use Rattle.std.specs.List.{AllByRecursion}
use Rattle.place_core.specs.Validity.{IsObject, spans_of, are_in_row}
use Rattle.place_core.proofs.valid.are_rising.Given as goal

-- those before `rest` passed
abbrev pub invariant-objects : goal.invariant-objects
invariant-objects l = record {
  objects : AllByRecursion (IsObject l.shape) l.rest;
  row : are_in_row (spans_of l.rest) ≡ are_in_row (spans_of l.objects);
}

abbrev pub decreases-objects : goal.decreases-objects
decreases-objects l = length l.rest
