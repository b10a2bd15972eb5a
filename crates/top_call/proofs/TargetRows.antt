-- The lines of the built-in targets, row by row.
use Rattle.std.proofs.Common.{◌≡◌, ℕ, zero, suc, ◌+◌, ◌<◌, ◌≤◌, List, [], ◌∷◌, ◌++◌, length, map, drop, get_or, arith}
use Rattle.std.specs.List.{AllByRecursion}
use Rattle.std.proofs.lemmas.List.{at_drop_more}
use Rattle.target_desc.specs.declared.target.Target.{Target}
use Rattle.target_desc.specs.Target.{builtins}
use Rattle.target_desc.specs.Spelling.{IsName}
use Rattle.target_desc.specs.Text.{description_text}
use Rattle.target_desc.proofs.Rows.{named_is_target, all_rows}
use Rattle.target_desc.proofs.Printed.{name_plain, described_short}
use Rattle.top_call.specs.Texts.{IsRow, target_row}

pub all_named : AllByRecursion IsRow builtins
all_named = all_rows IsRow builtins (λ name t is. is)

pub row_is_short : (name : List ℕ) (t : Target) → IsName name t → length name + length (description_text t) ≤ 53
row_is_short name t is = omega (arith, (name_plain name t is).short, described_short t (named_is_target name t is))

pub named_at : {R : Type 0} (row_of : R → List ℕ × Target) (rows : List R) (i : ℕ) (default : R) → i < length rows → AllByRecursion IsRow (map row_of rows) → IsRow (row_of (get_or rows i default))
named_at row_of [] i default within all = absurd (omega arith)
named_at row_of (row ∷ rows) zero default within all = all.0
named_at row_of (row ∷ rows) (suc i) default within all = named_at row_of rows i default (omega arith) all.1

-- the line of the row at index i, and those behind it
pub lines_at : {R : Type 0} (row_of : R → List ℕ × Target) (rows : List R) (i : ℕ) (default : R) → i < length rows
    → map target_row (map row_of (drop i rows)) ≡ (target_row (row_of (get_or rows i default)) ∷ []) ++ map target_row (map row_of (drop (i + 1) rows))
lines_at row_of rows i default within = at_drop_more (λ l. map target_row (map row_of l)) rows i default within
