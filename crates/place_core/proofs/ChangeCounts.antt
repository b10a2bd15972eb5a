-- Which entries change a number, and how the changes of others are counted.
use Rattle.std.proofs.Common.{◌≡◌, ◌≢◌, ℕ, ◌≤◌, ◌+◌, ◌==◌, Bool, true, false, if◌then◌else◌, List, [], ◌∷◌, ◌++◌, length, refl, ap, sym, ◌∙◌, subst, arith, append_assoc, eq-eqb, ne_eqb}
use Rattle.std.specs.List.{AllByRecursion}
use Rattle.std.proofs.lemmas.List.{append-nil}
use mathlib.Core.Logic.{dite}
use native.Mathlib.Decide.{ℕ_discrete}
use Rattle.place_core.specs.Histories.{made_by}
use Rattle.place_core.specs.Changes.{change_by_other, changes_from}
use Rattle.place_core.proofs.EntryLists.{made_by-all, made_by-own_first, made_by-other_first}

module _ {E : Type 0} (caller : E → ℕ) (number : List E → ℕ) (c : ℕ) where
  -- ---- one entry

  own_counts_not : (before : List E) (x : E) → caller x ≡ c → change_by_other caller number c before x ≡ 0
  own_counts_not before x own = ap (λ (b : Bool). if b then 0 else (if number (before ++ x ∷ []) == number before then 0 else 1)) (eq-eqb (caller x) c own)

  same_if : (b : Bool) → (let n : ℕ = if b then 0 else 0 in n ≡ 0)
  same_if true = refl
  same_if false = refl

  kept_counts_not : (before : List E) (x : E) → number (before ++ x ∷ []) ≡ number before → change_by_other caller number c before x ≡ 0
  kept_counts_not before x kept = ap (λ (b : Bool). if caller x == c then 0 else (if b then 0 else 1)) (eq-eqb (number (before ++ x ∷ [])) (number before) kept) ∙ same_if (caller x == c)

  other_counts : (before : List E) (x : E) → caller x ≢ c → number (before ++ x ∷ []) ≢ number before → change_by_other caller number c before x ≡ 1
  other_counts before x other differs = ap (λ (b : Bool × Bool). if b.0 then 0 else (if b.1 then 0 else 1)) (λ i. (ne_eqb (caller x) c other i, ne_eqb (number (before ++ x ∷ [])) (number before) differs i))

  one_at_most : (a b : Bool) → (let n : ℕ = if a then 0 else (if b then 0 else 1) in n ≤ 1)
  one_at_most true b = omega arith
  one_at_most false true = omega arith
  one_at_most false false = omega arith

  pub changes_none : (before : List E) → changes_from caller number c before [] ≡ 0
  unfolding changes_from
  changes_none before = refl

  changes_one : (before : List E) (x : E) → changes_from caller number c before (x ∷ []) ≡ change_by_other caller number c before x
  unfolding changes_from
  changes_one before x = omega arith

  pub own_change : (before : List E) (x : E) → caller x ≡ c → changes_from caller number c before (x ∷ []) ≡ 0
  own_change before x own = changes_one before x ∙ own_counts_not before x own

  pub kept_number : (before : List E) (x : E) → number (before ++ x ∷ []) ≡ number before → changes_from caller number c before (x ∷ []) ≡ 0
  kept_number before x kept = changes_one before x ∙ kept_counts_not before x kept

  pub other_change : (before : List E) (x : E) → caller x ≢ c → number (before ++ x ∷ []) ≢ number before → changes_from caller number c before (x ∷ []) ≡ 1
  other_change before x other differs = changes_one before x ∙ other_counts before x other differs

  -- ---- stretches

  -- over two stretches they add up
  pub changes_append : (before xs ys : List E) → changes_from caller number c before (xs ++ ys) ≡ changes_from caller number c before xs + changes_from caller number c (before ++ xs) ys
  unfolding changes_from
  changes_append before [] ys = let e : before ++ [] ≡ before = append-nil before in rw e (omega arith)
  changes_append before (x ∷ xs) ys =
      let rest = changes_append (before ++ x ∷ []) xs ys in
      let e : (before ++ x ∷ []) ++ xs ≡ before ++ x ∷ xs = append_assoc before (x ∷ []) xs in
      let rest' : changes_from caller number c (before ++ x ∷ []) (xs ++ ys) ≡ changes_from caller number c (before ++ x ∷ []) xs + changes_from caller number c (before ++ x ∷ xs) ys =
      subst (λ (l : List E). changes_from caller number c (before ++ x ∷ []) (xs ++ ys) ≡ changes_from caller number c (before ++ x ∷ []) xs + changes_from caller number c l ys) e rest in
      omega arith

  pub changes_length : (before xs : List E) → changes_from caller number c before xs ≤ length xs
  unfolding changes_from
  changes_length before [] = omega arith
  changes_length before (x ∷ xs) = let rest = changes_length (before ++ x ∷ []) xs in
      let here : change_by_other caller number c before x ≤ 1 = one_at_most (caller x == c) (number (before ++ x ∷ []) == number before) in omega arith

  all_own : (before xs : List E) → AllByRecursion (λ x. caller x ≡ c) xs → changes_from caller number c before xs ≡ 0
  unfolding changes_from
  all_own before [] all = refl
  all_own before (x ∷ xs) all = λ i. own_counts_not before x all.0 i + all_own (before ++ x ∷ []) xs all.1 i

  pub own_stretch : (before xs : List E) → made_by caller xs c ≡ xs → changes_from caller number c before xs ≡ 0
  own_stretch before xs own = all_own before xs (subst (AllByRecursion (λ x. caller x ≡ c)) own (made_by-all caller xs c))

  -- where the number differs and c has made no entry, another has changed it
  pub changes_some : (before xs : List E) → made_by caller xs c ≡ [] → number (before ++ xs) ≢ number before → 1 ≤ changes_from caller number c before xs
  unfolding changes_from
  changes_some before [] none differs = absurd (differs (ap number (append-nil before)))
  changes_some before (x ∷ xs) none differs = dite (ℕ_discrete (caller x) c)
      (λ e. let own : x ∷ made_by caller xs c ≡ [] = sym (made_by-own_first caller x xs c e) ∙ none in absurd cc)
      (λ ne.
      let rest_none : made_by caller xs c ≡ [] = sym (made_by-other_first caller x xs c ne) ∙ none in
      let e : (before ++ x ∷ []) ++ xs ≡ before ++ x ∷ xs = append_assoc before (x ∷ []) xs in
      dite (ℕ_discrete (number (before ++ x ∷ [])) (number before))
      (λ same. let rest = changes_some (before ++ x ∷ []) xs rest_none (λ z. differs (ap number (sym e) ∙ (z ∙ same))) in omega arith)
      (λ ne'. let p : change_by_other caller number c before x ≡ 1 = other_counts before x ne ne' in omega arith))

  -- one lost try more, one change more
  pub lost_counts : (k : ℕ) (before xs ys : List E) → k ≤ changes_from caller number c before xs → made_by caller ys c ≡ [] → number ((before ++ xs) ++ ys) ≢ number (before ++ xs)
      → k + 1 ≤ changes_from caller number c before (xs ++ ys)
  lost_counts k before xs ys le none differs =
      let total = changes_append before xs ys in
      let one = changes_some (before ++ xs) ys none differs in
      omega arith
