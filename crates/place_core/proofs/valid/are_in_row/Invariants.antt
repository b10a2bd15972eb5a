use Rattle.std.proofs.Common.{◌≡◌, length}
use Rattle.place_core.specs.Validity.{are_in_row}
use Rattle.place_core.proofs.valid.are_in_row.Given as goal

-- those before `rest` passed
abbrev pub invariant-spans : goal.invariant-spans
invariant-spans l = are_in_row l.rest ≡ are_in_row l.spans

abbrev pub decreases-spans : goal.decreases-spans
decreases-spans l = length l.rest
