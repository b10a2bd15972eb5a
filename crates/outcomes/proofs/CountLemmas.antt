-- States that are counted: those of two sets that share none, and two more.
use Rattle.std.proofs.Common.{◌≡◌, ◌≢◌, Bool, true, false, ◌||◌, List, [], ◌∷◌, ◌++◌, refl}
use Rattle.std.specs.List.{AllByRecursion, IsDistinct, list_any}
use Rattle.std.specs.Ordering.{eq_by_cmp, is_eq}
use Rattle.std.specs.declared.cmp.Ordering.{Ordering}
use Rattle.std.specs.declared.cmp.Ordering.TheVariants.{Less, Equal, Greater}
use Rattle.std.specs.Cmp.{IsTotalOrder, tied_itself}
use Rattle.std.specs.BTreeMap.{is_at}
use Rattle.std.specs.BTreeSet.{BTreeSet, contains, IsOrdered}
use Rattle.std.proofs.lemmas.Map.Keys.{IsDistinct-from_sorted, IsDistinct-cons, IsDistinct-head, IsDistinct-tail}

or_right : (a b : Bool) → b ≡ true → (a || b) ≡ true
or_right true b h = refl
or_right false b h = h

left_false : (a b : Bool) → (a || b) ≡ false → a ≡ false
left_false true b h = h
left_false false b h = refl

right_false : (a b : Bool) → (a || b) ≡ false → b ≡ false
right_false true b h = let clash : true ≡ false = h in cc
right_false false b h = h

pub AllByRecursion-append : {X : Type 0} (P : X → Type 0) (xs ys : List X) → AllByRecursion P xs → AllByRecursion P ys → AllByRecursion P (xs ++ ys)
AllByRecursion-append P [] ys h k = k
AllByRecursion-append P (x ∷ xs) ys h k = (h.0, AllByRecursion-append P xs ys h.1 k)

module _ {S : Type 0} (cmp : S → S → Ordering) where
  -- none of the keys is equal to x
  all_other : (x : S) (ks : List S) → list_any (is_at (cmp x)) ks ≡ false → AllByRecursion (λ y. eq_by_cmp cmp x y ≡ false) ks
  all_other x [] h = tt
  all_other x (k ∷ ks) h = (left_false (is_eq (cmp x k)) (list_any (is_at (cmp x)) ks) h, all_other x ks (right_false (is_eq (cmp x k)) (list_any (is_at (cmp x)) ks) h))

  pub IsDistinct-append : (xs ys : List S) → IsDistinct (eq_by_cmp cmp) xs → IsDistinct (eq_by_cmp cmp) ys → AllByRecursion (λ x. list_any (is_at (cmp x)) ys ≡ false) xs → IsDistinct (eq_by_cmp cmp) (xs ++ ys)
  IsDistinct-append [] ys h k apart = k
  IsDistinct-append (x ∷ xs) ys h k apart = IsDistinct-cons (eq_by_cmp cmp) x (xs ++ ys)
      (AllByRecursion-append (λ y. eq_by_cmp cmp x y ≡ false) xs ys (IsDistinct-head (eq_by_cmp cmp) x xs h) (all_other x ys apart.0))
      (IsDistinct-append xs ys (IsDistinct-tail (eq_by_cmp cmp) x xs h) k apart.1)

  module _ (order : IsTotalOrder cmp) where
    -- what holds of each state that the list has, by the test of sets, holds of each of its elements
    pub all_from_has : (P : S → Type 0) (ks : List S) → ((q : S) → list_any (is_at (cmp q)) ks ≡ true → P q) → AllByRecursion P ks
    all_from_has P [] h = tt
    all_from_has P (k ∷ ks) h = (
      h k (let one : cmp k k ≡ Equal = tied_itself order k in rw one refl),
      all_from_has P ks (λ q has. h q (or_right (is_eq (cmp q k)) (list_any (is_at (cmp q)) ks) has)),
    )

    -- two states that are in neither of two sets that share none, and those sets
    pub distinct_in_all : (x y : S) (done left : BTreeSet S) → IsOrdered cmp done → IsOrdered cmp left → ((q : S) → contains cmp done q ≡ true → contains cmp left q ≡ false)
        → cmp x y ≢ Equal → contains cmp done x ≡ false → contains cmp left x ≡ false → contains cmp done y ≡ false → contains cmp left y ≡ false
        → IsDistinct (eq_by_cmp cmp) (x ∷ y ∷ (done.keys ++ left.keys))
    distinct_in_all x y done left od ol apart differ dx lx dy ly =
        IsDistinct-cons (eq_by_cmp cmp) x (y ∷ (done.keys ++ left.keys))
        (not_equal (cmp x y) differ, AllByRecursion-append (λ z. eq_by_cmp cmp x z ≡ false) done.keys left.keys (all_other x done.keys dx) (all_other x left.keys lx))
        (IsDistinct-cons (eq_by_cmp cmp) y (done.keys ++ left.keys)
        (AllByRecursion-append (λ z. eq_by_cmp cmp y z ≡ false) done.keys left.keys (all_other y done.keys dy) (all_other y left.keys ly))
        (IsDistinct-append done.keys left.keys (IsDistinct-from_sorted cmp done.keys od) (IsDistinct-from_sorted cmp left.keys ol)
        (all_from_has (λ q. list_any (is_at (cmp q)) left.keys ≡ false) done.keys apart)))
      where
        not_equal : (o : Ordering) → o ≢ Equal → is_eq o ≡ false
        not_equal Less h = refl
        not_equal Equal h = absurd (h refl)
        not_equal Greater h = refl
