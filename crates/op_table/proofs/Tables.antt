-- Looking words up in tables.
use Rattle.std.proofs.Common.{◌≡◌, ◌⊎◌, Bool, true, false, ◌&&◌, cond, leb, ℕ, ◌≤◌, List, [], ◌∷◌, ◌++◌, length, Some, inl, inr, refl, sym, ap, subst, ◌∙◌, arith, le-leb}
use Rattle.std.specs.List.{AllByRecursion}
use Rattle.std.specs.Str.{bytes_eq}
use Rattle.std.proofs.lemmas.Bool.{cases_Bool, and_from}
use Rattle.std.proofs.lemmas.Slice.Eq.{bytes_eq-Decides}
use Rattle.op_table.specs.Words.{among, rows_by, of_lengths}

module _ {A : Type 0} where
  skipped : (keep : Bool) (row : List ℕ × A) (rows : List (List ℕ × A)) (w : List ℕ) → bytes_eq w row.0 ≡ false → among (cond keep (row ∷ rows) rows) w ≡ among rows w
  skipped true row rows w other = ap (λ (b : Bool). cond b (Some row.1) (among rows w)) other
  skipped false row rows w other = refl

  -- a word is only compared with those of about its length
  pub among_of_lengths : (low high : ℕ) (rows : List (List ℕ × A)) (w : List ℕ) → low ≤ length w → length w ≤ high → among rows w ≡ among (of_lengths low high rows) w
  among_of_lengths low high [] w above below = refl
  among_of_lengths low high (row ∷ rows) w above below = elim (cases_Bool (bytes_eq w row.0)) [
    | inl same ↦
        let e = ap length ((bytes_eq-Decides w row.0).0 same) in
        let kept : (leb low (length row.0) && leb (length row.0) high) ≡ true = and_from _ _ (le-leb low (length row.0) (omega arith)) (le-leb (length row.0) high (omega arith)) in
        rw (kept, same) refl
    | inr other ↦
        ap (λ (b : Bool). cond b (Some row.1) (among rows w)) other
        ∙ among_of_lengths low high rows w above below
        ∙ sym (skipped (leb low (length row.0) && leb (length row.0) high) row (of_lengths low high rows) w other)
  ]

  -- what a word is read as has that word
  pub among_rows_by : (word : A → List ℕ) (xs : List A) (w : List ℕ) (x : A) → among (rows_by word xs) w ≡ Some x → w ≡ word x
  among_rows_by word [] w x e = absurd cc
  among_rows_by word (y ∷ ys) w x e = elim (cases_Bool (bytes_eq w (word y))) [
    | inl same ↦
        let found : Some y ≡ Some x = sym (ap (λ (b : Bool). cond b (Some y) (among (rows_by word ys) w)) same) ∙ e in
        (bytes_eq-Decides w (word y)).0 same ∙ ap word (inside found)
    | inr other ↦ among_rows_by word ys w x (sym (ap (λ (b : Bool). cond b (Some y) (among (rows_by word ys) w)) other) ∙ e)
  ]
    where
      inside : Some y ≡ Some x → y ≡ x
      inside e = cc

  -- a word that is in no row of the first table is looked up in the second
  pub among_append : (rows more : List (List ℕ × A)) (w : List ℕ) (x : A) → among (rows ++ more) w ≡ Some x → (among rows w ≡ Some x) ⊎ (among more w ≡ Some x)
  among_append [] more w x e = inr e
  among_append (row ∷ rows) more w x e = by_test (bytes_eq w row.0) e (among_append rows more w x)
    where
      by_test : (b : Bool) → cond b (Some row.1) (among (rows ++ more) w) ≡ Some x
          → (among (rows ++ more) w ≡ Some x → (among rows w ≡ Some x) ⊎ (among more w ≡ Some x))
          → (cond b (Some row.1) (among rows w) ≡ Some x) ⊎ (among more w ≡ Some x)
      by_test true e later = inl e
      by_test false e later = later e

  -- what a word is read as is one of the items
  pub among_all : (P : A → Type 0) (word : A → List ℕ) (xs : List A) (w : List ℕ) (x : A) → AllByRecursion P xs → among (rows_by word xs) w ≡ Some x → P x
  among_all P word [] w x all e = absurd cc
  among_all P word (y ∷ ys) w x all e = by_test (bytes_eq w (word y)) e (among_all P word ys w x all.1)
    where
      by_test : (b : Bool) → cond b (Some y) (among (rows_by word ys) w) ≡ Some x → (among (rows_by word ys) w ≡ Some x → P x) → P x
      by_test true e later = subst P (inside e) all.0
        where
          inside : Some y ≡ Some x → y ≡ x
          inside e = cc
      by_test false e later = later e
