-- Elements of lists, and beginnings of lists with one more element.
use Rattle.std.proofs.Common.{◌≡◌, ◌≢◌, ◌⊎◌, inl, inr, ℕ, zero, suc, ◌<◌, ◌≤◌, ◌==◌, nat_lt, Bool, true, false, List, [], ◌∷◌, ◌++◌, length, Option, Some, None, refl, ap, sym, ◌∙◌, subst, arith, append_assoc}
use Rattle.std.specs.Prelude.{slice_get, IsSomeAnd, map}
use Rattle.std.specs.List.{AllByRecursion}
use mathlib.Core.List.{IsPrefix}
use borrow.Author.Tests.{ltb-true, eqb-true}

pub true_or_false : (b : Bool) → (b ≡ true) ⊎ (b ≡ false)
true_or_false true = inl refl
true_or_false false = inr refl

pub true_not_false : (b : Bool) → b ≡ true → b ≡ false → ⊥
true_not_false b yes' no' = let clash : true ≡ false = sym yes' ∙ no' in cc

pub nat_lt-false : (m n : ℕ) → n ≤ m → nat_lt m n ≡ false
nat_lt-false m n le = elim (true_or_false (nat_lt m n)) [ inl h ↦ let less : m < n = ltb-true m n h in absurd (omega arith) | inr h ↦ h ]

pub eq-false : (m n : ℕ) → m ≢ n → (m == n) ≡ false
eq-false m n ne = elim (true_or_false (m == n)) [ inl h ↦ absurd (ne (eqb-true m n h)) | inr h ↦ h ]

-- a value that is there, with its fact
pub some_and : {X : Type 0} (P : X → Type 0) (o : Option X) → IsSomeAnd o P → (x : X) × (o ≡ Some x) × P x
some_and P None h = absurd h
some_and P (Some x) h = (x, refl, h)

pub is_some_and : {X : Type 0} (P : X → Type 0) (o : Option X) (x : X) → o ≡ Some x → P x → IsSomeAnd o P
is_some_and P o x e h = subst (λ q. IsSomeAnd q P) (sym e) h

module _ {X : Type 0} where
  pub all_at : (P : X → Type 0) (xs : List X) (i : ℕ) (x : X) → AllByRecursion P xs → slice_get xs i ≡ Some x → P x
  all_at P [] i x all e = absurd cc
  all_at P (y ∷ xs) zero x all e = let one : y ≡ x = cc in subst P one all.0
  all_at P (y ∷ xs) (suc i) x all e = all_at P xs i x all.1 e

  pub at_within : (xs : List X) (i : ℕ) (x : X) → slice_get xs i ≡ Some x → i < length xs
  at_within [] i x e = absurd cc
  at_within (y ∷ xs) zero x e = omega arith
  at_within (y ∷ xs) (suc i) x e = let rest = at_within xs i x e in omega arith

  pub at_last : (xs : List X) (x : X) → slice_get (xs ++ x ∷ []) (length xs) ≡ Some x
  at_last [] x = refl
  at_last (y ∷ xs) x = at_last xs x

  -- but at its place one more element changes no look
  pub at_other : (xs : List X) (x : X) (i : ℕ) → i ≢ length xs → slice_get (xs ++ x ∷ []) i ≡ slice_get xs i
  at_other [] x zero ne = absurd (ne refl)
  at_other [] x (suc i) ne = refl
  at_other (y ∷ xs) x zero ne = refl
  at_other (y ∷ xs) x (suc i) ne = at_other xs x i (λ e. ne (omega (arith, e)))

  pub prefix_at : (xs zs : List X) (y : X) → IsPrefix (xs ++ y ∷ []) zs → slice_get zs (length xs) ≡ Some y
  prefix_at xs zs y front = let whole : xs ++ (y ∷ front.0) ≡ zs = sym (append_assoc xs (y ∷ []) front.0) ∙ front.1 in subst (λ l. slice_get l (length xs) ≡ Some y) whole (behind xs y front.0)
    where
      behind : (xs : List X) (y : X) (more : List X) → slice_get (xs ++ y ∷ more) (length xs) ≡ Some y
      behind [] y more = refl
      behind (x ∷ xs) y more = behind xs y more

  pub prefix_one_more : (xs zs : List X) (y : X) → IsPrefix xs zs → slice_get zs (length xs) ≡ Some y → IsPrefix (xs ++ y ∷ []) zs
  prefix_one_more [] [] y front e = absurd cc
  prefix_one_more [] (z ∷ zs) y front e = let one : z ≡ y = cc in (zs, ap (λ x. x ∷ zs) (sym one))
  prefix_one_more (x ∷ xs) [] y front e = absurd cc
  prefix_one_more (x ∷ xs) (z ∷ zs) y front e =
      let one : x ≡ z = cc (front.1) in
      let tail : xs ++ front.0 ≡ zs = cc (front.1) in
      let rest = prefix_one_more xs zs y (front.0, tail) e in
      (rest.0, cc (one, rest.1))

  pub prefix_front : (xs ys zs : List X) → IsPrefix (xs ++ ys) zs → IsPrefix xs zs
  prefix_front xs ys zs front = (ys ++ front.0, sym (append_assoc xs ys front.0) ∙ front.1)

  pub prefix_nil : (zs : List X) → IsPrefix [] zs
  prefix_nil zs = (zs, refl)

module _ {X Y : Type 0} (f : X → Y) where
  pub map-snoc : (xs : List X) (x : X) → map f (xs ++ x ∷ []) ≡ map f xs ++ f x ∷ []
  map-snoc [] x = refl
  map-snoc (y ∷ xs) x = ap (λ l. f y ∷ l) (map-snoc xs x)

  pub length-map' : (xs : List X) → length (map f xs) ≡ length xs
  length-map' [] = refl
  length-map' (x ∷ xs) = omega (arith, length-map' xs)

  pub at_map : (xs : List X) (i : ℕ) (y : Y) → slice_get (map f xs) i ≡ Some y → (x : X) × (slice_get xs i ≡ Some x) × (f x ≡ y)
  at_map [] i y e = absurd cc
  at_map (x ∷ xs) zero y e = (x, refl, cc)
  at_map (x ∷ xs) (suc i) y e = at_map xs i y e

  pub map_at : (xs : List X) (i : ℕ) (x : X) → slice_get xs i ≡ Some x → slice_get (map f xs) i ≡ Some (f x)
  map_at [] i x e = absurd cc
  map_at (y ∷ xs) zero x e = let one : y ≡ x = cc in ap (λ z. Some (f z)) one
  map_at (y ∷ xs) (suc i) x e = map_at xs i x e

  pub map_none : (xs : List X) (i : ℕ) → slice_get xs i ≡ None → slice_get (map f xs) i ≡ None
  map_none [] i e = refl
  map_none (y ∷ xs) zero e = absurd cc
  map_none (y ∷ xs) (suc i) e = map_none xs i e
