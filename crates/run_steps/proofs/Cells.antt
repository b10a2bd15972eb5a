-- The cells after one more entry are those after its move.
use Rattle.std.proofs.Common.{◌≡◌, ◌⊎◌, inl, inr, ℕ, ◌+◌, ◌-◌, ◌<◌, ◌≤◌, nat_lt, true, false, if◌then◌else◌, refl, ap, sym, ◌∙◌, subst, arith}
use mathlib.Core.Logic.{dite}
use native.Mathlib.Decide.{ℕ_discrete}
use borrow.Author.Tests.{ltb-true, lt-ltb}
use Rattle.run_steps.specs.Standing.{by_sort}
use Rattle.run_steps.proofs.Lists.{true_or_false, true_not_false, nat_lt-false}

-- ---- cells by their sorts

module _ (n m : ℕ) (a b c d : ℕ → ℕ) where
  pub by_sort-count : (t : ℕ) → t < n → by_sort n m t a b c d ≡ a t
  by_sort-count t within = ap (λ z. if z then a t else (if nat_lt t (n + n) then b (t - n) else (if nat_lt t (n + n + m) then c (t - (n + n)) else d (t - (n + n + m))))) (lt-ltb t n within)

  pub by_sort-failure : (t : ℕ) → t < n → by_sort n m (n + t) a b c d ≡ b t
  by_sort-failure t within =
      let low : nat_lt (n + t) n ≡ false = nat_lt-false (n + t) n (omega arith) in
      let high : nat_lt (n + t) (n + n) ≡ true = lt-ltb (n + t) (n + n) (omega arith) in
      ap (λ z. if z then a (n + t) else (if nat_lt (n + t) (n + n) then b (n + t - n) else (if nat_lt (n + t) (n + n + m) then c (n + t - (n + n)) else d (n + t - (n + n + m))))) low
      ∙ ap (λ z. if z then b (n + t - n) else (if nat_lt (n + t) (n + n + m) then c (n + t - (n + n)) else d (n + t - (n + n + m)))) high
      ∙ ap b (omega arith)

  pub by_sort-value : (o : ℕ) → o < m → by_sort n m (n + n + o) a b c d ≡ c o
  by_sort-value o within =
      let i : ℕ = n + n + o in
      let first : nat_lt (n + n + o) n ≡ false = nat_lt-false (n + n + o) n (omega arith) in
      let second : nat_lt (n + n + o) (n + n) ≡ false = nat_lt-false (n + n + o) (n + n) (omega arith) in
      let third : nat_lt (n + n + o) (n + n + m) ≡ true = lt-ltb (n + n + o) (n + n + m) (omega arith) in
      ap (λ z. if z then a i else (if nat_lt i (n + n) then b (i - n) else (if nat_lt i (n + n + m) then c (i - (n + n)) else d (i - (n + n + m))))) first
      ∙ ap (λ z. if z then b (i - n) else (if nat_lt i (n + n + m) then c (i - (n + n)) else d (i - (n + n + m)))) second
      ∙ ap (λ z. if z then c (i - (n + n)) else d (i - (n + n + m))) third
      ∙ ap c (omega arith)

  pub by_sort-told : (r : ℕ) → by_sort n m (n + n + m + r) a b c d ≡ d r
  by_sort-told r =
      let i : ℕ = n + n + m + r in
      let first : nat_lt (n + n + m + r) n ≡ false = nat_lt-false (n + n + m + r) n (omega arith) in
      let second : nat_lt (n + n + m + r) (n + n) ≡ false = nat_lt-false (n + n + m + r) (n + n) (omega arith) in
      let third : nat_lt (n + n + m + r) (n + n + m) ≡ false = nat_lt-false (n + n + m + r) (n + n + m) (omega arith) in
      ap (λ z. if z then a i else (if nat_lt i (n + n) then b (i - n) else (if nat_lt i (n + n + m) then c (i - (n + n)) else d (i - (n + n + m))))) first
      ∙ ap (λ z. if z then b (i - n) else (if nat_lt i (n + n + m) then c (i - (n + n)) else d (i - (n + n + m)))) second
      ∙ ap (λ z. if z then c (i - (n + n)) else d (i - (n + n + m))) third
      ∙ ap d (omega arith)

-- two ways to make cells agree where they agree by sorts
pub by_sort-same : (n m count : ℕ) (a b c d a' b' c' d' : ℕ → ℕ) → ((t : ℕ) → t < n → a t ≡ a' t) → ((t : ℕ) → t < n → b t ≡ b' t) → ((o : ℕ) → o < m → c o ≡ c' o)
    → ((r : ℕ) → n + n + m + r < count → d r ≡ d' r) → (i : ℕ) → i < count → by_sort n m i a b c d ≡ by_sort n m i a' b' c' d'
by_sort-same n m count a b c d a' b' c' d' fa fb fc fd i within =
    elim (true_or_false (nat_lt i n)) [
      | inl h ↦ let less : i < n = ltb-true i n h in by_sort-count n m a b c d i less ∙ fa i less ∙ sym (by_sort-count n m a' b' c' d' i less)
      | inr h ↦ elim (true_or_false (nat_lt i (n + n))) [
        | inl k ↦
            let low : n ≤ i = not_less i n h in
            let less : i < n + n = ltb-true i (n + n) k in
            let at : n + (i - n) ≡ i = omega arith in
            subst (λ j. by_sort n m j a b c d ≡ by_sort n m j a' b' c' d') at
            (by_sort-failure n m a b c d (i - n) (omega arith) ∙ fb (i - n) (omega arith) ∙ sym (by_sort-failure n m a' b' c' d' (i - n) (omega arith)))
        | inr k ↦ elim (true_or_false (nat_lt i (n + n + m))) [
          | inl g ↦
              let low : n + n ≤ i = not_less i (n + n) k in
              let less : i < n + n + m = ltb-true i (n + n + m) g in
              let at : n + n + (i - (n + n)) ≡ i = omega arith in
              subst (λ j. by_sort n m j a b c d ≡ by_sort n m j a' b' c' d') at
              (by_sort-value n m a b c d (i - (n + n)) (omega arith) ∙ fc (i - (n + n)) (omega arith) ∙ sym (by_sort-value n m a' b' c' d' (i - (n + n)) (omega arith)))
          | inr g ↦
              let low : n + n + m ≤ i = not_less i (n + n + m) g in
              let at : n + n + m + (i - (n + n + m)) ≡ i = omega arith in
              subst (λ j. by_sort n m j a b c d ≡ by_sort n m j a' b' c' d') at
              (by_sort-told n m a b c d (i - (n + n + m)) ∙ fd (i - (n + n + m)) (omega arith) ∙ sym (by_sort-told n m a' b' c' d' (i - (n + n + m))))
        ]
      ]
    ]
  where
    not_less : (i n : ℕ) → nat_lt i n ≡ false → n ≤ i
    not_less i n h = dite (ℕ_discrete 0 0) (λ e. elim (le_or_less n i) [ inl le ↦ le | inr less ↦ absurd (true_not_false (nat_lt i n) (lt-ltb i n less) h) ]) (λ ne. absurd (ne refl))
      where
        le_or_less : (n i : ℕ) → (n ≤ i) ⊎ (i < n)
        le_or_less n i = elim (true_or_false (nat_lt i n)) [ inl t ↦ inr (ltb-true i n t) | inr t ↦ inl (search (arith, t)) ]
