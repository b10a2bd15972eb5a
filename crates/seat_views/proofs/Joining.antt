-- Parts that are joined one after another.
use Rattle.std.proofs.Common.{◌≡◌, ℕ, suc, ◌+◌, ◌*◌, ◌^◌, ◌<◌, ◌≤◌, refl, ap, sym, ◌∙◌, subst, arith}
use Rattle.std.proofs.Math.Nat.{mul-le-mul_left, mul-suc}
use Rattle.place_core.specs.PartValues.{joined}

pub join_none : (bits : ℕ) (g : ℕ → ℕ) → 0 ≡ joined bits g 0
unfolding joined
join_none bits g = refl

join_suc : (bits : ℕ) (g : ℕ → ℕ) (i : ℕ) → joined bits g (suc i) ≡ joined bits g i + g i * 2 ^ (bits * i)
unfolding joined
join_suc bits g i = refl

pub join_more : (bits : ℕ) (g : ℕ → ℕ) (i low value : ℕ) → low ≡ joined bits g i → value ≡ low + g i * 2 ^ (bits * i) → value ≡ joined bits g (i + 1)
join_more bits g i low value was is = let up : suc i ≡ i + 1 = omega arith in is ∙ (ap (λ (z : ℕ). z + g i * 2 ^ (bits * i)) was ∙ (sym (join_suc bits g i) ∙ ap (joined bits g) up))

-- a part that is below the count ends within all bits
pub part_ends : (bits n i : ℕ) → bits * n ≤ 128 → i < n → bits * i + bits ≤ 128
part_ends bits n i le lt = let a : bits * suc i ≤ bits * n = mul-le-mul_left bits lt in let b : bits * suc i ≡ bits * i + bits = mul-suc bits i in omega arith

pub bits_more : (bits i value : ℕ) → value < 2 ^ (bits * i + bits) → value < 2 ^ (bits * (i + 1))
bits_more bits i value lt = let e : bits * suc i ≡ bits * i + bits = mul-suc bits i in let up : suc i ≡ i + 1 = omega arith in subst (λ (z : ℕ). value < 2 ^ z) (sym e ∙ ap (λ (z : ℕ). bits * z) up) lt

pub bits_none : (bits : ℕ) → 0 < 2 ^ (bits * 0)
bits_none bits = let e : bits * 0 ≡ 0 = omega arith in subst (λ (z : ℕ). 0 < 2 ^ z) (sym e) (omega arith)
