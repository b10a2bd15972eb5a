-- Bits of a word that no lane has are 0: they would be a lane with the value 0.
use Rattle.std.proofs.Common.{◌≡◌, ◌≢◌, ◌⊎◌, inl, inr, ⊎_elim, ℕ, zero, suc, ◌≤◌, ◌<◌, ◌+◌, ◌*◌, ◌/◌, ◌%◌, ◌^◌, ◌==◌, Bool, true, false, if◌then◌else◌, List, [], ◌∷◌, refl, ap, sym, ◌∙◌, subst, arith, Option, Some}
use Rattle.std.proofs.lemmas.Nat.{pow_pos, mod_below}
use mathlib.Core.Logic.{dite}
use native.Mathlib.Decide.{ℕ_discrete}
use Rattle.place_core.specs.Cells.{value_of}
use Rattle.place_core.specs.Shapes.{cells_of_shape, strips_of}
use Rattle.place_core.specs.WordSums.{Strip, piece, word_sum}
use Rattle.place_core.specs.WordLaws.{FreeBitsAreZero, FreeBitIsZero, WordWithoutLanesIsZero}
use Rattle.place_core.proofs.LaneSums.{Lies, IsLaid, sum_same, sum_none, lane_value}
use Rattle.place_core.proofs.ShapeWords.{strip, strip_back, laid, lanes_small}

-- no lane of the list has one of the n bits from p on
abbrev Free : List (Option Strip) → ℕ → ℕ → ℕ → Type 0
Free l w p n = (j : ℕ) (t : Strip) → Lies l j t w → (p + n ≤ t.shift) ⊎ (t.shift + t.width ≤ p)

-- 0 in front of the values
abbrev later : (ℕ → ℕ) → ℕ → ℕ
later g zero = 0
later g (suc i) = g i

sum_later : (l : List (Option Strip)) (k : ℕ) (g : ℕ → ℕ) (w : ℕ) → word_sum l (suc k) (later g) w ≡ word_sum l k g w
unfolding word_sum
sum_later [] k g w = refl
sum_later (a ∷ more) k g w = ap (λ (z : ℕ). piece a w (g k) + z) (sum_later more (suc k) g w)

nothing : (b : Bool) (p : ℕ) → (if b then 0 * 2 ^ p else 0) ≡ 0
nothing true p = omega arith
nothing false p = refl

no_piece : (w p : ℕ) → (if w == w then 0 * 2 ^ p else 0) ≡ 0
no_piece w p = nothing (w == w) p

module _ (l : List (Option Strip)) (w p n : ℕ) (ok : IsLaid l w) (free : Free l w p n) where
  beside : (s t : Strip) (j : ℕ) → strip w p n ≡ s → Lies l j t w → (s.shift + s.width ≤ t.shift) ⊎ (t.shift + t.width ≤ s.shift)
  beside s t j same lies = subst (λ (z : Strip). (z.shift + z.width ≤ t.shift) ⊎ (t.shift + t.width ≤ z.shift)) same (free j t lies)

  turned : (s t : Strip) → (s.shift + s.width ≤ t.shift) ⊎ (t.shift + t.width ≤ s.shift) → (t.shift + t.width ≤ s.shift) ⊎ (s.shift + s.width ≤ t.shift)
  turned s t both = ⊎_elim (λ (a : s.shift + s.width ≤ t.shift). inr a) (λ (b : t.shift + t.width ≤ s.shift). inl b) both

  apart_too : (i j : ℕ) (s t : Strip) → Lies (Some (strip w p n) ∷ l) i s w → Lies (Some (strip w p n) ∷ l) j t w → i ≢ j → (s.shift + s.width ≤ t.shift) ⊎ (t.shift + t.width ≤ s.shift)
  apart_too zero zero s t a b ne = absurd (ne refl)
  apart_too zero (suc j) s t a b ne = beside s t j (let e : Some (Some (strip w p n)) ≡ Some (Some s) = a.0 in cc) b
  apart_too (suc i) zero s t a b ne = turned t s (beside t s i (let e : Some (Some (strip w p n)) ≡ Some (Some t) = b.0 in cc) a)
  apart_too (suc i) (suc j) s t a b ne = ok.apart i j s t a b (λ e. ne (ap suc e))

  wide_too : 0 < n → (i : ℕ) (s : Strip) → Lies (Some (strip w p n) ∷ l) i s w → 0 < s.width
  wide_too some zero s a = let same : strip w p n ≡ s = (let e : Some (Some (strip w p n)) ≡ Some (Some s) = a.0 in cc) in subst (λ (z : Strip). 0 < z.width) same some
  wide_too some (suc i) s a = ok.wide i s a

  laid_too : 0 < n → IsLaid (Some (strip w p n) ∷ l) w
  laid_too some = record { apart = apart_too; wide = wide_too some }

  module _ (g : ℕ → ℕ) (small : (i : ℕ) (t : Strip) → Lies l i t w → g i < 2 ^ t.width) where
    small_too : (i : ℕ) (t : Strip) → Lies (Some (strip w p n) ∷ l) i t w → later g i < 2 ^ t.width
    small_too zero t a = pow_pos t.width
    small_too (suc i) t a = small i t a

    sum_is : word_sum (Some (strip w p n) ∷ l) 0 (later g) w ≡ word_sum l 0 g w
    unfolding word_sum
    sum_is = (λ i. no_piece w p i + sum_later l 0 g w i) ∙ omega arith

    free_sum : word_sum l 0 g w / 2 ^ p % 2 ^ n ≡ 0
    free_sum = dite (ℕ_discrete n 0)
        (λ none. let one : 2 ^ n ≡ 1 = ap (λ (z : ℕ). 2 ^ z) none in
        let low : word_sum l 0 g w / 2 ^ p % 2 ^ n < 2 ^ n = mod_below (word_sum l 0 g w / 2 ^ p) (2 ^ n) (pow_pos n) in omega arith)
        (λ some. ap (λ (z : ℕ). z / 2 ^ p % 2 ^ n) (sym sum_is) ∙ lane_value (Some (strip w p n) ∷ l) (later g) w 0 (strip w p n) (laid_too (omega arith)) small_too (refl, refl))

pub free_bits_are_zero : FreeBitsAreZero
free_bits_are_zero S ok H legal w p n free =
    free_sum (strips_of S) w p n (laid S ok w) (λ j t lies. free j t.shift t.width (strip_back S j w t lies)) (value_of (cells_of_shape S) H) (lanes_small S ok H legal w)

pub free_bit_is_zero : FreeBitIsZero
free_bit_is_zero S ok H legal w p free = free_bits_are_zero S ok H legal w p 1 free

pub word_without_lanes : WordWithoutLanesIsZero
word_without_lanes S H w never = sum_same (strips_of S) 0 (value_of (cells_of_shape S) H) (λ _. 0) w (λ i t lies. absurd (never i t.shift t.width (strip_back S i w t lies)))
    ∙ sum_none (strips_of S) 0 w
