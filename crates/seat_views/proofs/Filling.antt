-- Words that are filled one after another.
use Rattle.std.proofs.Common.{◌≡◌, inl, inr, ⊎_elim, ℕ, suc, ◌≤◌, ◌<◌, ◌+◌, ◌*◌, List, [], ◌∷◌, ◌++◌, take, drop, length, set, get_or, refl, ap, sym, ◌∙◌, subst, arith, length-set, get_or-set_other, get_or-set_same}
use Rattle.std.proofs.Math.Nat.{mul-le-mul_left, mul-suc}
use mathlib.Core.Logic.{dite}
use native.Mathlib.Decide.{ℕ_discrete}
use Rattle.seat_views.specs.Starts.{Puts}

pub puts_none : (words : List ℕ) (from : ℕ) (put : ℕ → ℕ) → Puts words from 0 put words
puts_none words from put = record { sized = refl; done = λ i lt. absurd (omega arith); others = λ x out. refl }

pub puts_more : (old : List ℕ) (from i : ℕ) (put : ℕ → ℕ) (new : List ℕ) (x : ℕ) → Puts old from i put new → from + i < length old → x ≡ put i → Puts old from (i + 1) put (set new (from + i) x)
puts_more old from i put new x p within is = let sized = p.sized in record {
  sized = length-set new (from + i) x ∙ p.sized;
  done = λ j lt. dite (ℕ_discrete j i)
      (λ e. ap (λ (z : ℕ). get_or (set new (from + i) x) (from + z) 0) e ∙ (get_or-set_same new (from + i) x 0 (omega arith) ∙ (is ∙ ap put (sym e))))
      (λ ne. get_or-set_other new (from + i) (from + j) x 0 (λ e. ne (omega arith)) ∙ p.done j (omega arith));
  others = λ y out. get_or-set_other new (from + i) y x 0 (λ e. ⊎_elim (λ (a : y < from). omega arith) (λ (a : from + (i + 1) ≤ y). omega arith) out)
      ∙ p.others y (⊎_elim (λ (a : y < from). inl a) (λ (a : from + (i + 1) ≤ y). inr (omega arith)) out);
}

-- a part that is below the count lies within all bits
pub part_below : (bits n i : ℕ) → 0 < bits → bits * n ≤ 128 → i < n → bits * i < 128
part_below bits n i pos le lt = let a : bits * suc i ≤ bits * n = mul-le-mul_left bits lt in let b : bits * suc i ≡ bits * i + bits = mul-suc bits i in omega arith

-- a slice of a whole vector, written back
pub whole_slice : (n : ℕ) (new items : List ℕ) → length new ≡ n → take n (new ++ drop (length new) items) ≡ new
whole_slice n new items e = subst (λ (z : ℕ). take z (new ++ drop (length new) items) ≡ new) e (front new (drop (length new) items))
  where
    front : (xs ys : List ℕ) → take (length xs) (xs ++ ys) ≡ xs
    front [] ys = take_none ys
      where
        take_none : (zs : List ℕ) → take 0 zs ≡ []
        take_none [] = refl
        take_none (z ∷ zs) = refl
    front (x ∷ xs) ys = ap (λ (l : List ℕ). x ∷ l) (front xs ys)
