-- Spans in the order of their numbers: they are apart exactly where each ends before the next begins.
use Rattle.std.proofs.Common.{◌≡◌, ◌≢◌, inl, inr, ⊎_elim, ℕ, zero, suc, ◌/◌, ◌%◌, ◌^◌, ◌<◌, ◌≤◌, Bool, true, false, List, [], ◌∷◌, length, refl, ap, sym, ◌∙◌, subst, arith, get_or}
use Rattle.std.specs.Prelude.{◌&&◌}
use Rattle.std.specs.List as lists
use Rattle.std.specs.List.{All, AllPairs}
use Rattle.std.specs.List.Sorted.{IsPermutation}
use Rattle.std.proofs.lemmas.Bool.{leb-true, le-leb, cases_lt}
use Rattle.std.proofs.lemmas.List.Edits.{Swapped, swapped_from_swap, length-swap}
use Rattle.std.proofs.lemmas.List.Kept.{AllPairs-cons}
use Rattle.std.proofs.lemmas.List.Sorted.{IsPermutation-keeps}
use mathlib.Core.Logic.{dite}
use native.Mathlib.Decide.{ℕ_discrete}
use Rattle.place_core.specs.Validity.{IsSpan, ApartSpans, is_before, are_in_row}

-- ---- pairs of a list in another order

module _ {X : Type 0} (R : X → X → Type 0) (turned : (x y : X) → R x y → R y x) where
  pub either_way : (xs : List X) → AllPairs R xs → (d : X) (p q : ℕ) → p ≢ q → p < length xs → q < length xs → R (get_or xs p d) (get_or xs q d)
  either_way xs all d p q ne lp lq = ⊎_elim
      (λ (lt : p < q). all p q d lt lq)
      (λ (ge : q ≤ p). turned (get_or xs q d) (get_or xs p d) (all q p d (omega (arith, ge, ne)) lp))
      (cases_lt p q)

  swapped_pair : (f g : ℕ → X) (a b n : ℕ) → a < n → b < n → Swapped f g a b → ((p q : ℕ) → p ≢ q → p < n → q < n → R (f p) (f q)) → (p q : ℕ) → p ≢ q → p < n → q < n → R (g p) (g q)
  swapped_pair f g a b n la lb s all p q ne lp lq =
      let to : (x y : ℕ) → g p ≡ f x → g q ≡ f y → R (f x) (f y) → R (g p) (g q) = λ x y ep eq r. subst (λ (z : X). R z (g q)) (sym ep) (subst (λ (z : X). R (f x) z) (sym eq) r) in
      dite (ℕ_discrete p a)
      (λ pa. dite (ℕ_discrete q b)
      (λ qb. to b a (ap g pa ∙ s.0) (ap g qb ∙ s.1) (all b a (λ e. ne (pa ∙ (sym e ∙ sym qb))) lb la))
      (λ nb. to b q (ap g pa ∙ s.0) (s.2 q (λ qa. ne (pa ∙ sym qa)) nb) (all b q (λ e. nb (sym e)) lb lq)))
      (λ na. dite (ℕ_discrete p b)
      (λ pb. dite (ℕ_discrete q a)
      (λ qa. to a b (ap g pb ∙ s.1) (ap g qa ∙ s.0) (all a b (λ e. ne (pb ∙ (sym e ∙ sym qa))) la lb))
      (λ nqa. to a q (ap g pb ∙ s.1) (s.2 q nqa (λ qb. ne (pb ∙ sym qb))) (all a q (λ e. nqa (sym e)) la lq)))
      (λ nb. dite (ℕ_discrete q a)
      (λ qa. to p b (s.2 p na nb) (ap g qa ∙ s.0) (all p b nb lp lb))
      (λ nqa. dite (ℕ_discrete q b)
      (λ qb. to p a (s.2 p na nb) (ap g qb ∙ s.1) (all p a na lp la))
      (λ nqb. to p q (s.2 p na nb) (s.2 q nqa nqb) (all p q ne lp lq)))))

  swap_keeps : (xs : List X) (a b : ℕ) → a < length xs → b < length xs → AllPairs R xs → AllPairs R (lists.swap xs a b)
  swap_keeps xs a b la lb all p q d lt lq =
      let same : length (lists.swap xs a b) ≡ length xs = length-swap xs a b in
      let inside : q < length xs = subst (λ (n : ℕ). q < n) same lq in
      swapped_pair (λ i. get_or xs i d) (λ i. get_or (lists.swap xs a b) i d) a b (length xs) la lb (swapped_from_swap xs (lists.swap xs a b) a b d la lb refl) (either_way xs all d) p q (omega (arith, lt)) (omega (arith, lt, inside)) inside

  -- a relation of all pairs stays where elements only move
  pub AllPairs-permutation : (xs ys : List X) → IsPermutation xs ys → AllPairs R xs → AllPairs R ys
  AllPairs-permutation xs ys moved all = IsPermutation-keeps xs (AllPairs R) all (λ l i j li lj h. swap_keeps l i j li lj h) ys moved

-- ---- spans

pub turned_apart : (x y : ℕ) → ApartSpans x y → ApartSpans y x
turned_apart x y (inl a) = inr a
turned_apart x y (inr b) = inl b

both_true : (a b : Bool) → (a && b) ≡ true → (a ≡ true) × (b ≡ true)
both_true true b e = (refl, e)
both_true false b e = absurd cc

abbrev pub Before : ℕ → ℕ → Type 0
Before x y = x % 2 ^ 32 ≤ y / 2 ^ 32

pub row_before : (xs : List ℕ) → All IsSpan xs → are_in_row xs ≡ true → AllPairs Before xs
row_before [] spans row = λ i j d lt within. absurd (omega (arith, within))
row_before (x ∷ []) spans row = λ i j d lt within. absurd (omega (arith, lt, within))
row_before (x ∷ y ∷ ys) spans row =
    let t = both_true (is_before x (y ∷ ys)) (are_in_row (y ∷ ys)) row in
    let first : x % 2 ^ 32 ≤ y / 2 ^ 32 = leb-true (x % 2 ^ 32) (y / 2 ^ 32) t.0 in
    let rest : AllPairs Before (y ∷ ys) = row_before (y ∷ ys) (λ i d within. spans (suc i) d (omega (arith, within))) t.1 in
    let second : y / 2 ^ 32 < y % 2 ^ 32 = spans 1 0 (omega arith) in
    AllPairs-cons Before x (y ∷ ys) (λ i d within. later i d within first second rest) rest
  where
    later : (i d : ℕ) → i < length (y ∷ ys) → x % 2 ^ 32 ≤ y / 2 ^ 32 → y / 2 ^ 32 < y % 2 ^ 32 → AllPairs Before (y ∷ ys) → x % 2 ^ 32 ≤ get_or (y ∷ ys) i d / 2 ^ 32
    later zero d within first second rest = first
    later (suc i) d within first second rest = let far : y % 2 ^ 32 ≤ get_or ys i d / 2 ^ 32 = rest 0 (suc i) d (omega arith) within in omega (arith, first, second, far)

-- spans in a row are apart
pub row_apart : (xs : List ℕ) → All IsSpan xs → are_in_row xs ≡ true → AllPairs ApartSpans xs
row_apart xs spans row = λ i j d lt within. inl (row_before xs spans row i j d lt within)

-- sorted spans that are apart are in a row
pub apart_row : (xs : List ℕ) → All IsSpan xs → ((i j d : ℕ) → i ≤ j → j < length xs → get_or xs i d ≤ get_or xs j d) → AllPairs ApartSpans xs → are_in_row xs ≡ true
apart_row [] spans up apart = refl
apart_row (x ∷ []) spans up apart = refl
apart_row (x ∷ y ∷ ys) spans up apart =
    let rest : are_in_row (y ∷ ys) ≡ true = apart_row (y ∷ ys) (λ i d within. spans (suc i) d (omega (arith, within))) (λ i j d le within. up (suc i) (suc j) d (omega (arith, le)) (omega (arith, within))) (λ i j d lt within. apart (suc i) (suc j) d (omega (arith, lt)) (omega (arith, within))) in
    let second : y / 2 ^ 32 < y % 2 ^ 32 = spans 1 0 (omega arith) in
    let order : x ≤ y = up 0 1 0 (omega arith) (omega arith) in
    let starts : x / 2 ^ 32 ≤ y / 2 ^ 32 = omega (arith, order) in
    let first : x % 2 ^ 32 ≤ y / 2 ^ 32 = ⊎_elim (λ (a : x % 2 ^ 32 ≤ y / 2 ^ 32). a) (λ (b : y % 2 ^ 32 ≤ x / 2 ^ 32). absurd (omega (arith, b, second, starts))) (apart 0 1 0 (omega arith) (omega arith)) in
    (λ i. le-leb (x % 2 ^ 32) (y / 2 ^ 32) first i && rest i)
