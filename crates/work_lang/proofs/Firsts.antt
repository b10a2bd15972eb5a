-- A list is its first and the others, as a pattern `[first, others @ ..]` on a slice names them.
use Rattle.std.proofs.Common.{◌≡◌, ◌-◌, ◌≤◌, List, [], ◌∷◌, length, map, take, drop, get_or, sym, subst, ap, ◌∙◌, arith}
use Rattle.std.proofs.lemmas.List.{take_all}
use Rattle.std.specs.List.{AllByRecursion}

abbrev pub others : {X : Type 0} → List X → List X
others xs = take (length xs - 1) (drop 1 xs)

pub others-cons : {X : Type 0} (x : X) (xs : List X) → others (x ∷ xs) ≡ xs
others-cons x xs = take_all (length (x ∷ xs) - 1) xs (omega arith)

-- where the first is named by its place, as plain data is
pub first_others : {X : Type 0} (xs : List X) (default : X) → 1 ≤ length xs → xs ≡ get_or xs 0 default ∷ others xs
first_others [] default some = absurd (omega arith)
first_others (x ∷ xs) default some = ap (λ l. x ∷ l) (sym (others-cons x xs))

-- where the first has a name of its own, as a value with a model has
pub item_others : {X : Type 0} (xs : List X) (item : X) → 1 ≤ length xs → item ≡ get_or xs 0 item → xs ≡ item ∷ others xs
item_others xs item some is = first_others xs item some ∙ ap (λ x. x ∷ others xs) (sym is)

pub length-others : {X : Type 0} (xs : List X) → length (others xs) ≡ length xs - 1
length-others [] = omega arith
length-others (x ∷ xs) = ap length (others-cons x xs) ∙ omega arith

pub AllByRecursion-first : {X : Type 0} (P : X → Type 0) (xs : List X) (default : X) → 1 ≤ length xs → AllByRecursion P xs → P (get_or xs 0 default)
AllByRecursion-first P [] default some all = absurd (omega arith)
AllByRecursion-first P (x ∷ xs) default some all = all.0

pub AllByRecursion-others : {X : Type 0} (P : X → Type 0) (xs : List X) → AllByRecursion P xs → AllByRecursion P (others xs)
AllByRecursion-others P [] all = tt
AllByRecursion-others P (x ∷ xs) all = subst (λ l. AllByRecursion P l) (sym (others-cons x xs)) all.1

-- what holds of each image holds of the first one's, and of the others'
pub AllByRecursion-mapped : {X Y : Type 0} (P : Y → Type 0) (f : X → Y) (xs : List X) (item : X) → 1 ≤ length xs → item ≡ get_or xs 0 item → AllByRecursion P (map f xs) → P (f item) × AllByRecursion P (map f (others xs))
AllByRecursion-mapped P f xs item some is all = subst (λ l. AllByRecursion P (map f l)) (item_others xs item some is) all
