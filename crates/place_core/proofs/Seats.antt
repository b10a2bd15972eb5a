-- Lists of views, read by a seat's number.
use Rattle.std.proofs.Common.{◌≡◌, ◌≢◌, ◌⊎◌, inl, inr, ⊎_elim, ℕ, zero, suc, ◌<◌, List, [], ◌∷◌, ◌++◌, length, set, ap, sym, subst, refl, arith}
use mathlib.Core.Option.{some, some-injective, some-ne-none}
use lib.ListN.{get_elem?}

module _ {V : Type 0} where
  pub seat_inside : (l : List V) (i : ℕ) (a : V) → get_elem? l i ≡ some a → i < length l
  seat_inside [] i a e = absurd (some-ne-none a (sym e))
  seat_inside (x ∷ xs) zero a e = omega arith
  seat_inside (x ∷ xs) (suc i) a e = let h = seat_inside xs i a e in omega arith

  pub set_there : (l : List V) (i j : ℕ) (a b : V) → get_elem? (set l i a) j ≡ some b → ((j ≡ i) × (a ≡ b)) ⊎ ((j ≢ i) × (get_elem? l j ≡ some b))
  set_there [] i j a b e = absurd (some-ne-none b (sym e))
  set_there (x ∷ xs) zero zero a b e = inl (refl, some-injective a b e)
  set_there (x ∷ xs) zero (suc j) a b e = inr ((λ h. omega arith), e)
  set_there (x ∷ xs) (suc i) zero a b e = inr ((λ h. omega arith), e)
  set_there (x ∷ xs) (suc i) (suc j) a b e = ⊎_elim (λ t. inl (ap suc t.0, t.1)) (λ t. let n = t.0 in inr ((λ h. n (omega arith)), t.1)) (set_there xs i j a b e)

  pub set_own : (l : List V) (i : ℕ) (a b : V) → get_elem? l i ≡ some b → get_elem? (set l i a) i ≡ some a
  set_own [] i a b e = absurd (some-ne-none b (sym e))
  set_own (x ∷ xs) zero a b e = refl
  set_own (x ∷ xs) (suc i) a b e = set_own xs i a b e

  pub set_other : (l : List V) (i j : ℕ) (a : V) → j ≢ i → get_elem? (set l i a) j ≡ get_elem? l j
  set_other [] i j a n = refl
  set_other (x ∷ xs) zero zero a n = absurd (n refl)
  set_other (x ∷ xs) zero (suc j) a n = refl
  set_other (x ∷ xs) (suc i) zero a n = refl
  set_other (x ∷ xs) (suc i) (suc j) a n = set_other xs i j a (λ e. n (ap suc e))

  pub longer_there : (l : List V) (a : V) (i : ℕ) (b : V) → get_elem? l i ≡ some b → get_elem? (l ++ a ∷ []) i ≡ some b
  longer_there [] a i b e = absurd (some-ne-none b (sym e))
  longer_there (x ∷ xs) a zero b e = e
  longer_there (x ∷ xs) a (suc i) b e = longer_there xs a i b e

  -- the view that came last
  pub at_end : (l : List V) (a b : V) (j : ℕ) → get_elem? (l ++ a ∷ []) j ≡ some b → (get_elem? l j ≡ some b) ⊎ ((j ≡ length l) × (a ≡ b))
  at_end [] a b zero e = inr (refl, some-injective a b e)
  at_end [] a b (suc j) e = absurd (some-ne-none b (sym e))
  at_end (x ∷ xs) a b zero e = inl e
  at_end (x ∷ xs) a b (suc j) e = ⊎_elim (λ h. inl h) (λ (t : (j ≡ length xs) × (a ≡ b)). let h = t.0 in inr (omega arith, t.1)) (at_end xs a b j e)

  pub one_view : (a : V) (j : ℕ) (b : V) → get_elem? (a ∷ []) j ≡ some b → (j ≡ 0) × (a ≡ b)
  one_view a zero b e = (refl, some-injective a b e)
  one_view a (suc j) b e = absurd (some-ne-none b (sym e))

  -- what holds of all views, where one of them was changed
  pub seats_stay : (K : ℕ → V → Type 0) (views : List V) (me : ℕ) (w : V) → K me w → ((j : ℕ) (d : V) → j ≢ me → get_elem? views j ≡ some d → K j d)
      → (j : ℕ) (d : V) → get_elem? (set views me w) j ≡ some d → K j d
  seats_stay K views me w mine others j d e = ⊎_elim (λ (t : (j ≡ me) × (w ≡ d)). subst (λ (x : ℕ × V). K x.0 x.1) (λ i. (sym t.0 i, t.1 i)) mine)
      (λ (t : (j ≢ me) × (get_elem? views j ≡ some d)). others j d t.0 t.1) (set_there views me j w d e)

  -- where one was changed and one came
  pub seats_split : (K : ℕ → V → Type 0) (views : List V) (me : ℕ) (w n : V) → K me w → K (length (set views me w)) n → ((j : ℕ) (d : V) → j ≢ me → get_elem? views j ≡ some d → K j d)
      → (j : ℕ) (d : V) → get_elem? (set views me w ++ n ∷ []) j ≡ some d → K j d
  seats_split K views me w n mine new others j d e = ⊎_elim (seats_stay K views me w mine others j d)
      (λ (t : (j ≡ length (set views me w)) × (n ≡ d)). subst (λ (x : ℕ × V). K x.0 x.1) (λ i. (sym t.0 i, t.1 i)) new) (at_end (set views me w) n d j e)

  -- where one was changed and another too
  pub seats_join : (K : ℕ → V → Type 0) (views : List V) (me other : ℕ) (w s : V) → K me w → K other s → ((j : ℕ) (d : V) → j ≢ me → j ≢ other → get_elem? views j ≡ some d → K j d)
      → (j : ℕ) (d : V) → get_elem? (set (set views me w) other s) j ≡ some d → K j d
  seats_join K views me other w s mine gone others = seats_stay K (set views me w) other s gone
      (λ j d far there. seats_stay (λ i x. i ≢ other → K i x) views me w (λ _. mine) (λ i x apart at away. others i x apart away at) j d there far)
