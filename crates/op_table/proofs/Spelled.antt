-- The digits of a number, written from the last to the first.
use Rattle.std.proofs.Common.{◌≡◌, Bool, true, false, cond, eqb, ℕ, suc, ◌/◌, ◌%◌, List, [], ◌∷◌, refl, ap, eq-eqb, ne_eqb}
use Rattle.std.specs.Fmt.{digits, digits_onto, digit_glyph}

-- at most k digits of n, before those that are written already
unfoldable pub spelled : ℕ → ℕ → ℕ → List ℕ → List ℕ
spelled base k n written = digits_onto k base false n written

abbrev pub last_digit : ℕ → ℕ → ℕ
last_digit base n = digit_glyph false (n % base)

pub spelled-whole : (base n : ℕ) → spelled base 64 n [] ≡ digits base false n
unfolding spelled digits
spelled-whole base n = refl

spelled_by : (base k n : ℕ) (written : List ℕ) (ends : Bool) → eqb (n / base) 0 ≡ ends
    → spelled base (suc k) n written ≡ cond ends (last_digit base n ∷ written) (spelled base k (n / base) (last_digit base n ∷ written))
unfolding spelled
spelled_by base k n written ends e = ap (λ (b : Bool). cond b (last_digit base n ∷ written) (digits_onto k base false (n / base) (last_digit base n ∷ written))) e

pub spelled-last : (base k n : ℕ) (written : List ℕ) → n / base ≡ 0 → spelled base (suc k) n written ≡ last_digit base n ∷ written
spelled-last base k n written e = spelled_by base k n written true (eq-eqb _ 0 e)

pub spelled-step : (base k n : ℕ) (written : List ℕ) → (n / base ≡ 0 → ⊥) → spelled base (suc k) n written ≡ spelled base k (n / base) (last_digit base n ∷ written)
spelled-step base k n written e = spelled_by base k n written false (ne_eqb _ 0 e)

pub spelled-none : (base n : ℕ) (written : List ℕ) → spelled base 0 n written ≡ written
unfolding spelled
spelled-none base n written = refl
