-- Where objects lie: each in words of its own, after the locks.
use Rattle.std.proofs.Common.{◌≡◌, ◌≢◌, ◌⊎◌, inl, inr, ⊎_elim, ℕ, zero, suc, ◌+◌, ◌≤◌, ◌<◌, List, [], ◌∷◌, length, take, get_or, refl, ap, sym, ◌∙◌, subst, arith}
use Rattle.std.proofs.lemmas.Bool.{cases_lt}
use Rattle.std.proofs.lemmas.Nat.{mod_below}
use Rattle.any_size.specs.Bytes.{words_for}
use Rattle.any_size.specs.Histories.{start_at, size_of}
use Rattle.any_size.specs.Layout.{words_in, count_of, lock_of, first_word, table_size}

-- an object ends where the next begins
next_in : (starts : List (List ℕ)) (o : ℕ) → o < length starts → words_in (take (suc o) starts) ≡ words_in (take o starts) + words_for (length (get_or starts o []))
next_in [] o lt = absurd (omega arith)
next_in (v ∷ vs) zero lt = omega arith
next_in (v ∷ vs) (suc o) lt = let e = next_in vs o (omega arith) in omega arith

pub grows_in : (starts : List (List ℕ)) (o p : ℕ) → o ≤ p → words_in (take o starts) ≤ words_in (take p starts)
grows_in [] zero p le = omega arith
grows_in [] (suc o) p le = omega arith
grows_in (v ∷ vs) zero p le = omega arith
grows_in (v ∷ vs) (suc o) zero le = absurd (omega arith)
grows_in (v ∷ vs) (suc o) (suc p) le = let e = grows_in vs o p (omega arith) in omega arith

all_in : (starts : List (List ℕ)) (o : ℕ) → words_in (take o starts) ≤ words_in starts
all_in [] zero = omega arith
all_in [] (suc o) = omega arith
all_in (v ∷ vs) zero = omega arith
all_in (v ∷ vs) (suc o) = let e = all_in vs o in omega arith

module _ (starts : List (List ℕ)) (locks : ℕ) where
  pub ends_next : (o : ℕ) → o < length starts → first_word starts locks (suc o) ≡ first_word starts locks o + count_of starts o
  ends_next o lt = let e = next_in starts o lt in omega arith

  -- it lies within the table, after the locks
  pub lies_within : (o : ℕ) → o < length starts → (1 + locks ≤ first_word starts locks o) × (first_word starts locks o + count_of starts o ≤ table_size starts locks)
  lies_within o lt = let e = ends_next o lt in let a = all_in starts (suc o) in (omega arith, omega arith)

  -- apart from every other
  pub lies_apart : (o p : ℕ) → o < length starts → p < length starts → o ≢ p
      → (first_word starts locks o + count_of starts o ≤ first_word starts locks p) ⊎ (first_word starts locks p + count_of starts p ≤ first_word starts locks o)
  lies_apart o p o_in p_in ne = let a = ends_next o o_in in let b = ends_next p p_in in
      ⊎_elim (λ (lt : o < p). let g = grows_in starts (suc o) p (omega arith) in inl (omega arith))
      (λ (le : p ≤ o). let g = grows_in starts (suc p) o (let n : o ≢ p = ne in omega arith) in inr (omega arith))
      (cases_lt o p)

  pub lock_within : (o : ℕ) → 0 < locks → lock_of locks o < locks
  lock_within o some = mod_below o locks some
