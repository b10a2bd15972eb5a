-- Objects chunk by chunk: a chunk that is apart in itself and from those behind it leaves these to be looked at.
use Rattle.std.proofs.Common.{◌≡◌, ◌⊎◌, ◌↔◌, inl, inr, ⊎_elim, ℕ, zero, suc, ◌+◌, ◌-◌, ◌/◌, ◌%◌, ◌^◌, ◌<◌, ◌≤◌, true, List, [], ◌∷◌, ◌++◌, length, take, drop, refl, ap, sym, ◌∙◌, subst, arith, get_or, Option, Err, slice_get}
use Rattle.std.specs.Prelude.{slice_index}
use Rattle.std.specs.List.{All, AllPairs, AllByRecursion}
use Rattle.std.specs.List.Sorted.{IsPermutation, IsBinarySearchResult}
use Rattle.std.specs.Ordering.{nat_cmp}
use Rattle.std.proofs.lemmas.Bool.{leb-true, le-leb}
use Rattle.std.proofs.lemmas.Option.{slice_get_within}
use Rattle.std.proofs.lemmas.List.Sorted.{All-permutation, searched}
use Rattle.place_core.specs.declared.places.Object.{Object}
use Rattle.place_core.specs.declared.shape.Shape.{Shape}
use Rattle.place_core.specs.Validity.{IsSized, IsObject, span_of, span_in, spans_of, IsSpan, ApartSpans, AllApart, IsFree, AreFree, IsBehind, is_before, are_in_row}
use Rattle.place_core.proofs.ShapeTests.{object_at, each_object, all_objects, is_span}
use Rattle.place_core.proofs.SpanOrder.{Before, turned_apart, row_before, row_apart}

-- ---- a span between the neighbours of a row

module _ (ys : List ℕ) (spans : All IsSpan ys) (row : are_in_row ys ≡ true) where
  before : AllPairs Before ys
  before = row_before ys spans row

  pub up : (i j : ℕ) → i ≤ j → j < length ys → get_or ys i 0 ≤ get_or ys j 0
  up i j le lt = ⊎_elim
      (λ (e : i ≡ j). omega (arith, ap (λ (k : ℕ). get_or ys k 0) e))
      (λ (less : i < j). let b = before i j 0 less lt in let s = spans i 0 (omega (arith, less, lt)) in omega (arith, b, s))
      (same_or_less i j le)
    where
      same_or_less : (i j : ℕ) → i ≤ j → (i ≡ j) ⊎ (i < j)
      same_or_less zero zero le = inl refl
      same_or_less zero (suc j) le = inr (omega arith)
      same_or_less (suc i) zero le = absurd (omega (arith, le))
      same_or_less (suc i) (suc j) le = ⊎_elim (λ (e : i ≡ j). inl (ap suc e)) (λ (l : i < j). inr (omega (arith, l))) (same_or_less i j (omega (arith, le)))

  module _ (x : ℕ) (is : IsSpan x) (i : ℕ) (within : i ≤ length ys) (low : (k : ℕ) → k < i → get_or ys k 0 < x) (high : (k : ℕ) → i ≤ k → k < length ys → x < get_or ys k 0) where
    -- it begins behind the end of the one below it, and ends before the one above it begins
    abbrev pub Below : Type 0
    Below = (k : ℕ) → k + 1 ≡ i → get_or ys k 0 % 2 ^ 32 ≤ x / 2 ^ 32

    abbrev pub Above : Type 0
    Above = i < length ys → x % 2 ^ 32 ≤ get_or ys i 0 / 2 ^ 32

    pub free_from : Below → Above → IsFree x ys
    free_from below above k d lt = subst (ApartSpans x) (default_is ys k d lt) (by_side (cases k i))
      where
        default_is : (zs : List ℕ) (k d : ℕ) → k < length zs → get_or zs k 0 ≡ get_or zs k d
        default_is [] k d lt = absurd (omega (arith, lt))
        default_is (z ∷ zs) zero d lt = refl
        default_is (z ∷ zs) (suc k) d lt = default_is zs k d (omega (arith, lt))

        cases : (k i : ℕ) → (k + 1 ≡ i) ⊎ ((k + 1 < i) ⊎ ((k ≡ i) ⊎ (i < k)))
        cases zero zero = inr (inr (inl refl))
        cases zero (suc zero) = inl refl
        cases zero (suc (suc i)) = inr (inl (omega arith))
        cases (suc k) zero = inr (inr (inr (omega arith)))
        cases (suc k) (suc i) = ⊎_elim
            (λ (e : k + 1 ≡ i). inl (omega (arith, e)))
            (⊎_elim (λ (l : k + 1 < i). inr (inl (omega (arith, l)))) (⊎_elim (λ (e : k ≡ i). inr (inr (inl (ap suc e)))) (λ (g : i < k). inr (inr (inr (omega (arith, g)))))))
            (cases k i)

        by_side : (k + 1 ≡ i) ⊎ ((k + 1 < i) ⊎ ((k ≡ i) ⊎ (i < k))) → ApartSpans x (get_or ys k 0)
        by_side (inl e) = inr (below k e)
        by_side (inr (inl l)) =
            let last = below (i - 1) (omega (arith, l)) in
            let far = before k (i - 1) 0 (omega (arith, l)) (omega (arith, l, within)) in
            let span = spans (i - 1) 0 (omega (arith, l, within)) in
            inr (omega (arith, last, far, span))
        by_side (inr (inr (inl e))) = inl (subst (λ (j : ℕ). x % 2 ^ 32 ≤ get_or ys j 0 / 2 ^ 32) (sym e) (above (omega (arith, e, lt))))
        by_side (inr (inr (inr g))) =
            let first = above (omega (arith, g, lt)) in
            let far = before i k 0 g lt in
            let span = spans i 0 (omega (arith, g, lt)) in
            inl (omega (arith, first, far, span))

    pub free_below : IsFree x ys → Below
    free_below free k e =
        let less = low k (omega (arith, e)) in
        ⊎_elim
        (λ (a : x % 2 ^ 32 ≤ get_or ys k 0 / 2 ^ 32). absurd (omega (arith, a, less, is)))
        (λ (b : get_or ys k 0 % 2 ^ 32 ≤ x / 2 ^ 32). b)
        (free k 0 (omega (arith, e, within)))

    pub free_above : IsFree x ys → Above
    free_above free lt =
        let more = high i (omega arith) lt in
        let span = spans i 0 lt in
        ⊎_elim
        (λ (a : x % 2 ^ 32 ≤ get_or ys i 0 / 2 ^ 32). a)
        (λ (b : get_or ys i 0 % 2 ^ 32 ≤ x / 2 ^ 32). absurd (omega (arith, b, more, span)))
        (free i 0 lt)

-- ---- what a search of the row tells

before_rest : (x i : ℕ) (ys : List ℕ) → is_before x (drop i ys) ≡ true ↔ (i < length ys → x % 2 ^ 32 ≤ get_or ys i 0 / 2 ^ 32)
before_rest x zero [] = ((λ e lt. absurd (omega (arith, lt))), λ h. refl)
before_rest x (suc i) [] = ((λ e lt. absurd (omega (arith, lt))), λ h. refl)
before_rest x zero (y ∷ ys) = ((λ e lt. leb-true (x % 2 ^ 32) (y / 2 ^ 32) e), λ h. le-leb (x % 2 ^ 32) (y / 2 ^ 32) (h (omega arith)))
before_rest x (suc i) (y ∷ ys) = let t = before_rest x i ys in ((λ e lt. t.0 e (omega (arith, lt))), λ h. t.1 (λ lt. h (omega (arith, lt))))

length_front : (i : ℕ) (ys : List ℕ) → i ≤ length ys → length (take i ys) ≡ i
length_front zero ys le = refl
length_front (suc i) [] le = absurd (omega (arith, le))
length_front (suc i) (y ∷ ys) le = ap suc (length_front i ys (omega (arith, le)))

in_front : (i k : ℕ) (ys : List ℕ) → k < i → get_or (take i ys) k 0 ≡ get_or ys k 0
in_front zero k ys lt = absurd (omega (arith, lt))
in_front (suc i) k [] lt = refl
in_front (suc i) zero (y ∷ ys) lt = refl
in_front (suc i) (suc k) (y ∷ ys) lt = in_front i k ys (omega (arith, lt))

behind_front : (x i : ℕ) (ys : List ℕ) → i ≤ length ys → IsBehind x (take i ys) ↔ ((k : ℕ) → k + 1 ≡ i → get_or ys k 0 % 2 ^ 32 ≤ x / 2 ^ 32)
behind_front x i ys le =
    let long = length_front i ys le in (
      (λ behind k e. subst (λ (y : ℕ). y % 2 ^ 32 ≤ x / 2 ^ 32) (in_front i k ys (omega (arith, e))) (behind k (e ∙ sym long))),
      (λ h k e. let at : k + 1 ≡ i = e ∙ long in subst (λ (y : ℕ). y % 2 ^ 32 ≤ x / 2 ^ 32) (sym (in_front i k ys (omega (arith, at)))) (h k at)),
    )

-- where a span belongs at place i of the row, it is free exactly where it lies between its neighbours
pub search_tells : (ys : List ℕ) (spans : All IsSpan ys) (row : are_in_row ys ≡ true) (x : ℕ) → IsSpan x → (i : ℕ) → IsBinarySearchResult (λ y. nat_cmp y x) ys (Err i)
    → IsFree x ys ↔ (IsBehind x (take i ys) × (is_before x (drop i ys) ≡ true))
search_tells ys spans row x is i found =
    let at = searched ys x (Err i) found (up ys spans row) in
    let below = behind_front x i ys at.0 in
    let above = before_rest x i ys in (
      (λ free. (below.1 (free_below ys spans row x is i at.0 at.1 at.2 free), above.1 (free_above ys spans row x is i at.0 at.1 at.2 free))),
      (λ h. free_from ys spans row x is i at.0 at.1 at.2 (below.0 h.0) (above.0 h.1)),
    )

-- ---- two lists of objects

abbrev Alone : Object → List Object → Type 0
Alone x xs = AllByRecursion (λ (a : Object). ApartSpans (span_of x.place) (span_of a.place)) xs

abbrev ApartInTurn : List Object → Type 0
ApartInTurn [] = Unit {0}
ApartInTurn (x ∷ xs) = Alone x xs × ApartInTurn xs

in_turn : (xs : List Object) → AllApart xs → ApartInTurn xs
in_turn [] apart = tt
in_turn (x ∷ xs) apart = (
  all_objects (λ (a : Object). ApartSpans (span_of x.place) (span_of a.place)) xs (λ o a e. subst (λ (z : Option Object). ApartSpans (span_of x.place) (span_in z)) e (apart 0 (suc o) (omega arith) (let lt = slice_get_within xs o a e in omega (arith, lt)))),
  in_turn xs (λ o p lt within. apart (suc o) (suc p) (omega (arith, lt)) (omega (arith, within))),
)

from_turn : (xs : List Object) → ApartInTurn xs → AllApart xs
from_turn [] turn o p lt within = absurd (omega (arith, within))
from_turn (x ∷ xs) turn o zero lt within = absurd (omega (arith, lt))
from_turn (x ∷ xs) turn zero (suc p) lt within =
    let b = object_at xs p (omega (arith, within)) in
    subst (λ (z : Option Object). ApartSpans (span_of x.place) (span_in z)) (sym b.1) (each_object (λ (a : Object). ApartSpans (span_of x.place) (span_of a.place)) xs turn.0 p b.0 b.1)
from_turn (x ∷ xs) turn (suc o) (suc p) lt within = from_turn xs turn.1 o p (omega (arith, lt)) (omega (arith, within))

alone_parts : (x : Object) (xs ys : List Object) → Alone x (xs ++ ys) → Alone x xs × Alone x ys
alone_parts x [] ys all = (tt, all)
alone_parts x (z ∷ xs) ys all = let parts = alone_parts x xs ys all.1 in ((all.0, parts.0), parts.1)

alone_both : (x : Object) (xs ys : List Object) → Alone x xs → Alone x ys → Alone x (xs ++ ys)
alone_both x [] ys a b = b
alone_both x (z ∷ xs) ys a b = (a.0, alone_both x xs ys a.1 b)

free_of_none : (ys : List Object) → AreFree ys []
free_of_none [] = tt
free_of_none (y ∷ ys) = ((λ k d lt. absurd (omega (arith, lt))), free_of_none ys)

free_more : (x : Object) (s : List ℕ) (ys : List Object) → Alone x ys → AreFree ys s → AreFree ys (span_of x.place ∷ s)
free_more x s [] a free = tt
free_more x s (y ∷ ys) a free = (each, free_more x s ys a.1 free.1)
  where
    each : IsFree (span_of y.place) (span_of x.place ∷ s)
    each zero d lt = turned_apart (span_of x.place) (span_of y.place) a.0
    each (suc k) d lt = free.0 k d (omega (arith, lt))

free_less : (x : Object) (s : List ℕ) (ys : List Object) → AreFree ys (span_of x.place ∷ s) → Alone x ys × AreFree ys s
free_less x s [] free = (tt, tt)
free_less x s (y ∷ ys) free =
    let rest = free_less x s ys free.1 in
    ((turned_apart (span_of y.place) (span_of x.place) (free.0 0 0 (omega arith)), rest.0), ((λ k d lt. free.0 (suc k) d (omega (arith, lt))), rest.1))

split_turn : (xs ys : List Object) → ApartInTurn (xs ++ ys) → ApartInTurn xs × AreFree ys (spans_of xs) × ApartInTurn ys
split_turn [] ys turn = (tt, free_of_none ys, turn)
split_turn (x ∷ xs) ys turn =
    let alone = alone_parts x xs ys turn.0 in
    let rest = split_turn xs ys turn.1 in
    ((alone.0, rest.0), free_more x (spans_of xs) ys alone.1 rest.1, rest.2)

join_turn : (xs ys : List Object) → ApartInTurn xs → AreFree ys (spans_of xs) → ApartInTurn ys → ApartInTurn (xs ++ ys)
join_turn [] ys a free b = b
join_turn (x ∷ xs) ys a free b =
    let parts = free_less x (spans_of xs) ys free in
    (alone_both x xs ys a.0 parts.0, join_turn xs ys a.1 parts.1 b)

-- objects are apart exactly where a front is, the others are free of it, and these are apart
pub split_apart : (xs ys : List Object) → AllApart (xs ++ ys) → (AllApart xs × AreFree ys (spans_of xs)) × AllApart ys
split_apart xs ys apart = let t = split_turn xs ys (in_turn (xs ++ ys) apart) in ((from_turn xs t.0, t.1), from_turn ys t.2)

pub join_apart : (xs ys : List Object) → AllApart xs × AreFree ys (spans_of xs) → AllApart ys → AllApart (xs ++ ys)
join_apart xs ys front others = from_turn (xs ++ ys) (join_turn xs ys (in_turn xs front.0) front.1 (in_turn ys others))

-- ---- chunks

pub front_and_rest : {A : Type 0} (n : ℕ) (xs : List A) → take n xs ++ drop n xs ≡ xs
front_and_rest zero xs = refl
front_and_rest (suc n) [] = refl
front_and_rest (suc n) (x ∷ xs) = ap (λ (ys : List _). x ∷ ys) (front_and_rest n xs)

pub halves_are : (n : ℕ) (xs front rest : List Object) → front ≡ take n xs → rest ≡ drop n xs → front ++ rest ≡ xs
halves_are n xs front rest f r = (λ i. f i ++ r i) ∙ front_and_rest n xs

pub none_apart : (xs : List Object) → length xs ≡ 0 → AllApart xs
none_apart xs none o p lt within = absurd (omega (arith, none, within))

pub all_rest : (P : Object → Type 0) (n : ℕ) (xs : List Object) → AllByRecursion P xs → AllByRecursion P (drop n xs)
all_rest P zero xs all = all
all_rest P (suc n) [] all = tt
all_rest P (suc n) (x ∷ xs) all = all_rest P n xs all.1

-- free of spans in another order
pub free_of_moved : (objects : List Object) (xs ys : List ℕ) → IsPermutation xs ys → AreFree objects xs → AreFree objects ys
free_of_moved [] xs ys moved free = tt
free_of_moved (a ∷ objects) xs ys moved free = (All-permutation (ApartSpans (span_of a.place)) xs ys moved free.0, free_of_moved objects xs ys moved free.1)

-- the table holds the spans
pub filled_is : (xs : List ℕ) (objects : List Object) → length xs ≡ length objects → ((k : ℕ) → k < length objects → slice_index xs k ≡ span_in (slice_get objects k)) → xs ≡ spans_of objects
filled_is [] [] same filled = refl
filled_is [] (a ∷ objects) same filled = absurd (omega (arith, same))
filled_is (x ∷ xs) [] same filled = absurd (omega (arith, same))
filled_is (x ∷ xs) (a ∷ objects) same filled =
    let first = filled 0 (omega arith) in
    let rest = filled_is xs objects (omega (arith, same)) (λ k lt. filled (suc k) (omega (arith, lt))) in
    λ i. first i ∷ rest i

pub spans_are : (S : Shape) (sized : IsSized S) (objects : List Object) → AllByRecursion (IsObject S) objects → All IsSpan (spans_of objects)
spans_are S sized [] all k d lt = absurd (omega (arith, lt))
spans_are S sized (a ∷ objects) all zero d lt = is_span S sized a.kind a.place all.0.placed
spans_are S sized (a ∷ objects) all (suc k) d lt = spans_are S sized objects all.1 k d (omega (arith, lt))

-- objects that rise are apart
pub rising_apart : (S : Shape) (sized : IsSized S) (objects : List Object) → AllByRecursion (IsObject S) objects → are_in_row (spans_of objects) ≡ true → AllApart objects
rising_apart S sized objects all row = from_pairs objects (row_apart (spans_of objects) (spans_are S sized objects all) row)
  where
    from_pairs : (xs : List Object) → AllPairs ApartSpans (spans_of xs) → AllApart xs
    from_pairs xs pairs = from_turn xs (turn xs pairs)
      where
        alone : (x : Object) (xs : List Object) → ((k : ℕ) → k < length (spans_of xs) → ApartSpans (span_of x.place) (get_or (spans_of xs) k 0)) → Alone x xs
        alone x [] each = tt
        alone x (y ∷ ys) each = (each 0 (omega arith), alone x ys (λ k lt. each (suc k) (omega (arith, lt))))

        turn : (xs : List Object) → AllPairs ApartSpans (spans_of xs) → ApartInTurn xs
        turn [] pairs = tt
        turn (x ∷ xs) pairs = (alone x xs (λ k lt. pairs 0 (suc k) 0 (omega arith) (omega (arith, lt))), turn xs (λ i j d lt within. pairs (suc i) (suc j) d (omega (arith, lt)) (omega (arith, within))))
