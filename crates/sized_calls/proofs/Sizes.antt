-- The sizes, one by one.
use Rattle.std.proofs.Common.{◌≡◌, ◌⊎◌, inl, inr, ℕ, Bool, true, false, ◌||◌, ◌==◌, refl, sym, subst}
use Rattle.std.proofs.lemmas.Bool.{eqb-true}
use Rattle.sized_calls.specs.Sizes.{is_size}

either : (a b : Bool) → (a || b) ≡ true → (a ≡ true) ⊎ (b ≡ true)
either true b e = inl refl
either false b e = inr e

-- what holds of each of the five holds of a size
pub each_size : (P : ℕ → Type 0) → P 1 → P 2 → P 4 → P 8 → P 16 → (n : ℕ) → is_size n ≡ true → P n
each_size P one two four eight sixteen n e = elim (either (n == 1) _ e) [
  | inl is ↦ subst P (sym (eqb-true n 1 is)) one
  | inr more ↦ elim (either (n == 2) _ more) [
    | inl is ↦ subst P (sym (eqb-true n 2 is)) two
    | inr more ↦ elim (either (n == 4) _ more) [
      | inl is ↦ subst P (sym (eqb-true n 4 is)) four
      | inr more ↦ elim (either (n == 8) _ more) [
        | inl is ↦ subst P (sym (eqb-true n 8 is)) eight
        | inr is ↦ subst P (sym (eqb-true n 16 is)) sixteen
      ]
    ]
  ]
]
