-- A table with one rule more, and an update by one of its rules.
use Rattle.std.proofs.Common.{◌≡◌, ℕ, List, [], ◌∷◌, ◌++◌, zero, suc, Option, Some, Result, slice_get, subst}
use Rattle.place_core.specs.declared.shape.Shape.{Shape}
use Rattle.seat_views.specs.States.{PassState}
use Rattle.update_table.specs.declared.update.Stop.{Stop}
use Rattle.update_table.specs.Updates.{Updates}

-- what holds of each item of a list, and of one more, holds of each item of the longer list
pub each_with_one_more : {B : Type 0} (P : B → Type 0) (xs : List B) (x : B) → ((i : ℕ) (y : B) → slice_get xs i ≡ Some y → P y) → P x → (i : ℕ) (y : B) → slice_get (xs ++ x ∷ []) i ≡ Some y → P y
each_with_one_more P [] x all one zero y e = let same : x ≡ y = cc (e) in subst P same one
each_with_one_more P [] x all one (suc i) y e = absurd cc
each_with_one_more P (a ∷ xs) x all one zero y e = all zero y e
each_with_one_more P (a ∷ xs) x all one (suc i) y e = each_with_one_more P xs x (λ j z h. all (suc j) z h) one i y e

-- an update by a rule of the range is one by the same rule under its name in the table
pub updated_by : {B : Type 0} (leads : B → ℕ → Option ℕ → Type 0) (S : Shape) (o lo hi low high : ℕ) (rule named : B) (p : PassState) (r : Result ℕ Stop) (q : PassState) → low ≡ lo → high ≡ hi → rule ≡ named
    → Updates S o low high (leads rule) p r q → Updates S o lo hi (leads named) p r q
updated_by {B} leads S o lo hi low high rule named p r q low_is high_is same u = subst (λ (z : ℕ × ℕ × B). Updates S o z.0 z.1 (leads z.2) p r q) (λ i. (low_is i, high_is i, same i)) u
