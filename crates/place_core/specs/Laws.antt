-- Laws over histories, as the module `laws` proves them.
use Rattle.std.specs.Prelude.{◌≡◌, ◌≢◌, ◌↔◌, ℕ, suc, ◌≤◌, List, [], ◌∷◌, ◌++◌, Some, slice_get}
use mathlib.Core.List.{IsPrefix}
use Rattle.place_core.specs.declared.entry.Entry.{Entry}
use Rattle.place_core.specs.Histories.{CallersWithin}
use Rattle.place_core.specs.Cells.{Cell, left_by, value_of, entries_by, IsLawful, IsLegal}

-- ---- legal histories

abbrev pub EmptyIsLegal : Type 0
EmptyIsLegal = (cells : List Cell) → IsLegal cells []

-- one more entry
abbrev pub LegalWithOneMore : Type 0
LegalWithOneMore = (cells : List Cell) (H : List Entry) (x : Entry) → IsLegal cells (H ++ x ∷ []) ↔ (IsLegal cells H × IsLawful cells H x)

abbrev pub LegalInFront : Type 0
LegalInFront = (cells : List Cell) (H K : List Entry) → IsPrefix H K → IsLegal cells K → IsLegal cells H

-- ---- values

abbrev pub ValueAtStart : Type 0
ValueAtStart = (cells : List Cell) (o : ℕ) (cell : Cell) → slice_get cells o ≡ Some cell → value_of cells [] o ≡ cell.start

abbrev pub ValueAfterOwn : Type 0
ValueAfterOwn = (cells : List Cell) (H : List Entry) (x : Entry) (cell : Cell) → slice_get cells x.object ≡ Some cell → value_of cells (H ++ x ∷ []) x.object ≡ left_by cell.kind x (value_of cells H x.object)

-- an entry on one object leaves the value of every other
abbrev pub ValueAfterOther : Type 0
ValueAfterOther = (cells : List Cell) (H : List Entry) (x : Entry) (o : ℕ) → x.object ≢ o → value_of cells (H ++ x ∷ []) o ≡ value_of cells H o

-- ---- entries of a caller

abbrev pub EntriesOfNone : Type 0
EntriesOfNone = (c : ℕ) → entries_by [] c ≡ []

abbrev pub EntriesWithOwn : Type 0
EntriesWithOwn = (H : List Entry) (x : Entry) (c : ℕ) → x.caller ≡ c → entries_by (H ++ x ∷ []) c ≡ entries_by H c ++ x ∷ []

abbrev pub EntriesWithOther : Type 0
EntriesWithOther = (H : List Entry) (x : Entry) (c : ℕ) → x.caller ≢ c → entries_by (H ++ x ∷ []) c ≡ entries_by H c

abbrev pub EntriesInFront : Type 0
EntriesInFront = (H K : List Entry) (c : ℕ) → IsPrefix H K → IsPrefix (entries_by H c) (entries_by K c)

-- ---- callers within a bound

abbrev pub CallersOfNone : Type 0
CallersOfNone = (n : ℕ) → CallersWithin (λ (x : Entry). x.caller) n []

-- one more entry
abbrev pub CallersWithOneMore : Type 0
CallersWithOneMore = (H : List Entry) (x : Entry) (n : ℕ) → CallersWithin (λ (y : Entry). y.caller) n (H ++ x ∷ []) ↔ (CallersWithin (λ (y : Entry). y.caller) n H × (x.caller ≤ n))

-- a bound may be raised
abbrev pub CallersWithinMore : Type 0
CallersWithinMore = (H : List Entry) (n m : ℕ) → n ≤ m → CallersWithin (λ (x : Entry). x.caller) n H → CallersWithin (λ (x : Entry). x.caller) m H

abbrev pub CallersInFront : Type 0
CallersInFront = (H K : List Entry) (n : ℕ) → IsPrefix H K → CallersWithin (λ (x : Entry). x.caller) n K → CallersWithin (λ (x : Entry). x.caller) n H

-- a caller whose number is above all in the history has no entry in it
abbrev pub EntriesOfNew : Type 0
EntriesOfNew = (H : List Entry) (n c : ℕ) → CallersWithin (λ (x : Entry). x.caller) n H → suc n ≤ c → entries_by H c ≡ []
