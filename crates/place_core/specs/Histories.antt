-- Histories, as lists of entries of any type, the oldest first.
use Rattle.std.specs.Prelude.{◌≡◌, ℕ, ◌≤◌, List, [], ◌∷◌, ◌++◌, filter, ◌==◌, if◌then◌else◌}
use Rattle.std.specs.List.{AllByRecursion}

-- each entry has the property at the entries before it
unfoldable pub Each : {E : Type 0} → (List E → E → Type 0) → List E → Type 0
Each {E} P H = (before : List E) (x : E) (rest : List E) → H ≡ before ++ x ∷ rest → P before x

-- the entries of a caller, in order
unfoldable pub made_by : {E : Type 0} → (E → ℕ) → List E → ℕ → List E
made_by caller H c = filter (λ x. caller x == c) H

-- each caller's number is at most n
unfoldable pub CallersWithin : {E : Type 0} → (E → ℕ) → ℕ → List E → Type 0
CallersWithin caller n H = AllByRecursion (λ x. caller x ≤ n) H

-- the value of object o, which was v: the entries on o, one after another, each leave one
unfoldable pub value_from : {E V : Type 0} → (E → ℕ) → (E → V → V) → ℕ → V → List E → V
value_from object left o v [] = v
value_from object left o v (x ∷ xs) = value_from object left o (if object x == o then left x v else v) xs
