use Rattle.std.proofs.Common.{◌↔◌, length}
use Rattle.std.specs.List.{AllByRecursion}
use Rattle.place_core.specs.Validity.{IsObject, AllApart}
use Rattle.place_core.proofs.valid.are_apart.Given as goal

-- those before `rest` are apart, and `rest` is free of them
abbrev pub invariant-chunks : goal.invariant-chunks
invariant-chunks l = record {
  objects : AllByRecursion (IsObject l.shape) l.rest;
  apart : AllApart l.rest ↔ AllApart l.objects;
}

abbrev pub decreases-chunks : goal.decreases-chunks
decreases-chunks l = length l.rest
