-- Finding a cell by its address.
use Rattle.std.proofs.Common.{◌≡◌, ◌⊎◌, ⊎_elim, ℕ, zero, suc, ◌+◌, ◌<◌, ◌≤◌, Bool, cond, List, [], ◌∷◌, length, get_or, Option, Some, None, Result, Ok, Err, MatchResult, MatchOption, slice_get, refl, ap, sym, ◌∙◌, subst, arith}
use Rattle.std.specs.Result.{result_ok}
use Rattle.std.specs.List.Sorted.{IsSearchInRange, IsBinarySearchResult, IsNonDecreasingBy}
use Rattle.std.specs.Ordering.{nat_cmp, ordering_index}
use Rattle.std.proofs.lemmas.Cmp.{ranked}
use Rattle.std.proofs.lemmas.Bool.{eq-eqb, ne_eqb, cases_lt}
use Rattle.std.proofs.lemmas.Bool.Decides.{nat_tests}
use Rattle.std.proofs.lemmas.Option.{slice_get_within}
use Rattle.std.proofs.lemmas.List.Sorted.{IsNonDecreasingBy-from_default}
use Rattle.target_desc.specs.declared.target.Target.{Target}
use Rattle.sized_calls.specs.declared.cells.Cell.{Cell}
use Rattle.sized_calls.specs.Cells.{cell_end, faults_from, first_fault}
use Rattle.sized_calls.specs.Calls.{cell_with, IsCellAt}
use Rattle.sized_calls.proofs.CellKinds.{size_bounds}
use Rattle.sized_calls.proofs.Soundness.{first_is, others_are, each, rise}

inside : {A : Type 0} (x y : A) → Some x ≡ Some y → x ≡ y
inside x y e = cc

no_cell : Cell
no_cell = record { address = 0; size = 0; start = 0 }

-- ---- lists of cells

pub at_index : (cells : List Cell) (o : ℕ) (e : Cell) → o < length cells → slice_get cells o ≡ Some (get_or cells o e)
at_index [] o e lt = absurd (omega (arith, lt))
at_index (c ∷ cs) zero e lt = refl
at_index (c ∷ cs) (suc o) e lt = at_index cs o e (omega (arith, lt))

skips : (c : Cell) (cs : List Cell) (a : ℕ) → (c.address ≡ a → ⊥) → cell_with (c ∷ cs) a ≡ cell_with cs a
skips c cs a other = ap (λ (b : Bool). cond b (Some c) (cell_with cs a)) (ne_eqb c.address a other)

stops : (c : Cell) (cs : List Cell) (a : ℕ) → c.address ≡ a → cell_with (c ∷ cs) a ≡ Some c
stops c cs a same = ap (λ (b : Bool). cond b (Some c) (cell_with cs a)) (eq-eqb c.address a same)

absent : (cells : List Cell) (a : ℕ) → ((o : ℕ) (c : Cell) → slice_get cells o ≡ Some c → c.address ≡ a → ⊥) → cell_with cells a ≡ None
absent [] a other = refl
absent (c ∷ cs) a other = skips c cs a (other 0 c refl) ∙ absent cs a (λ o d at. other (suc o) d at)

-- addresses are apart, so a cell with the address is the first one
found_from : (t : Target) (i end : ℕ) (cells : List Cell) → faults_from t i end cells ≡ None → (o : ℕ) (c : Cell) (a : ℕ) → slice_get cells o ≡ Some c → c.address ≡ a → cell_with cells a ≡ Some c
found_from t i end [] e o c a at same = absurd cc
found_from t i end (d ∷ cs) e zero c a at same =
    let is : d ≡ c = inside d c at in
    stops d cs a (ap (λ (x : Cell). x.address) is ∙ same) ∙ ap (λ (x : Cell). Some x) is
found_from t i end (d ∷ cs) e (suc o) c a at same =
    let later = (each t (i + 1) (cell_end d) cs (others_are t i end d cs e) o c at).0.after in
    let some = (size_bounds d.size (first_is t i end d cs e).size).0 in
    skips d cs a (λ is. omega (arith, later, some, same, is)) ∙ found_from t (i + 1) (cell_end d) cs (others_are t i end d cs e) o c a at same

module _ (t : Target) (cells : List Cell) (none : first_fault t cells ≡ None) where
  pub found : (o : ℕ) (a : ℕ) (is : IsCellAt cells a o) → cell_with cells a ≡ Some is.cell
  found o a is = found_from t 0 0 cells none o is.cell a is.at is.here

  -- ---- a binary search

  addresses_rise : (i j : ℕ) → i ≤ j → j < length cells → (get_or cells i no_cell).address ≤ (get_or cells j no_cell).address
  addresses_rise i j le within = ⊎_elim
      (λ (lt : i < j).
      let before = rise t 0 0 cells none i j (get_or cells i no_cell) (get_or cells j no_cell) lt (at_index cells i no_cell (omega (arith, lt, within))) (at_index cells j no_cell within) in
      omega (arith, before))
      (λ (ge : j ≤ i).
      let same : i ≡ j = omega (arith, le, ge) in
      let is : (get_or cells i no_cell).address ≡ (get_or cells j no_cell).address = ap (λ (k : ℕ). (get_or cells k no_cell).address) same in
      omega (arith, is))
      (cases_lt i j)

  comparisons_rise : (a : ℕ) → IsNonDecreasingBy (λ (c : Cell). ordering_index (nat_cmp c.address a)) cells
  comparisons_rise a = IsNonDecreasingBy-from_default (λ (c : Cell). ordering_index (nat_cmp c.address a)) cells no_cell (λ i j le within.
      let up = addresses_rise i j le within in grind (arith, nat_tests))

  searched : (a : ℕ) (r : Result ℕ ℕ) → IsSearchInRange r (length cells) → IsBinarySearchResult (λ (c : Cell). nat_cmp c.address a) cells r → MatchResult r (λ o. IsCellAt cells a o) (λ o. cell_with cells a ≡ None)
  searched a (Ok o) within equal = record { cell = get_or cells o no_cell; at = at_index cells o no_cell within; here = ranked _ a _ (sym (equal no_cell)) }
  searched a (Err o) within parted =
      let sides = parted (comparisons_rise a) in
      absent cells a (λ k c at same.
      let lt : k < length cells = slice_get_within cells k c at in
      let is : get_or cells k no_cell ≡ c = inside (get_or cells k no_cell) c (sym (at_index cells k no_cell lt) ∙ at) in
      let here : (get_or cells k no_cell).address ≡ a = ap (λ (x : Cell). x.address) is ∙ same in
      ⊎_elim
      (λ (below : k < o). let less : (get_or cells k no_cell).address < a = ranked _ a _ (sym (sides.0 k no_cell (omega arith) below)) in omega (arith, less, here))
      (λ (above : o ≤ k). let more : a < (get_or cells k no_cell).address = ranked _ a _ (sym (sides.1 k no_cell above lt)) in omega (arith, more, here))
      (cases_lt k o))

  pub searched_ok : (a : ℕ) (r : Result ℕ ℕ) → IsSearchInRange r (length cells) → IsBinarySearchResult (λ (c : Cell). nat_cmp c.address a) cells r → MatchOption (result_ok r) (cell_with cells a ≡ None) (λ o. IsCellAt cells a o)
  searched_ok a (Ok o) within told = searched a (Ok o) within told
  searched_ok a (Err o) within told = searched a (Err o) within told

  pub searched_in : (a : ℕ) (shown told : List Cell) (r : Result ℕ ℕ) (o : Option ℕ) → shown ≡ cells → cells ≡ told → o ≡ result_ok r → IsSearchInRange r (length shown) → IsBinarySearchResult (λ (c : Cell). nat_cmp c.address a) shown r
      → MatchOption o (cell_with told a ≡ None) (λ n. IsCellAt told a n)
  searched_in a shown told r o same are is within parted =
      subst (λ (z : Option ℕ × List Cell). MatchOption z.0 (cell_with z.1 a ≡ None) (λ n. IsCellAt z.1 a n)) (λ i. (sym is i, are i))
      (searched_ok a r (subst (λ (z : List Cell). IsSearchInRange r (length z)) same within) (subst (λ (z : List Cell). IsBinarySearchResult (λ (c : Cell). nat_cmp c.address a) z r) same parted))
