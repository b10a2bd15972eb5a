-- A shape is valid exactly where its sizes, each of its objects, and the spans of any two pass.
use Rattle.std.proofs.Common.{◌≡◌, ◌≢◌, ◌⊎◌, ◌↔◌, inl, inr, ⊎_elim, ℕ, zero, suc, ◌+◌, ◌-◌, ◌*◌, ◌/◌, ◌%◌, ◌^◌, ◌<◌, ◌≤◌, true, List, [], ◌∷◌, length, refl, ap, sym, ◌∙◌, subst, arith, get_or, Option, Some, None, slice_get}
use Rattle.std.specs.Prelude.{slice_index}
use Rattle.std.specs.List.{All, AllPairs, AllByRecursion}
use Rattle.std.specs.List.Sorted.{IsPermutation, IsSorted}
use Rattle.std.specs.Ordering.{nat_cmp}
use Rattle.std.proofs.lemmas.Bool.{cases_lt}
use Rattle.std.proofs.lemmas.Nat.{div-mul-add, mod-mul-add}
use Rattle.std.proofs.lemmas.Option.{slice_get_within}
use Rattle.std.proofs.lemmas.List.Sorted.{All-permutation, IsNonDecreasingBy-from_sort, IsPermutation-sym}
use mathlib.Core.Logic.{dite}
use native.Mathlib.Decide.{ℕ_discrete}
use Rattle.op_table.specs.declared.kind.Kind.{Kind}
use Rattle.op_table.specs.declared.kind.Width.{Width}
use Rattle.op_table.specs.declared.kind.Width.TheVariants.{W1, W8, W16, W32, W64, W128}
use Rattle.op_table.specs.Kind.{bits_of, values_of, IsKind}
use Rattle.place_core.specs.declared.places.Object.{Object}
use Rattle.place_core.specs.declared.places.Place.{Place}
use Rattle.place_core.specs.declared.places.Place.TheVariants.{Lane, Parts}
use Rattle.place_core.specs.declared.shape.Shape.{Shape}
use Rattle.place_core.specs.Shapes.{place_in, kind_in, start_in, kind_of, start_of, parts_for, IsPlaced, AreApart, IsInSection, IsShape}
use Rattle.place_core.specs.Validity.{IsSized, IsObject, first_bit, end_bit, span_of, span_in, IsSpan, ApartSpans, AllApart, are_in_row}
use Rattle.place_core.proofs.ShapeFacts.{place_of-at, kind_of-at, start_of-at}
use Rattle.place_core.proofs.SpanOrder.{AllPairs-permutation, turned_apart, row_apart, apart_row}

pub bits_pos : (w : Width) → 0 < bits_of w
bits_pos W1 = omega arith
bits_pos W8 = omega arith
bits_pos W16 = omega arith
bits_pos W32 = omega arith
bits_pos W64 = omega arith
bits_pos W128 = omega arith

-- ---- objects under their numbers

pub object_at : (xs : List Object) (o : ℕ) → o < length xs → (a : Object) × (slice_get xs o ≡ Some a)
object_at [] o lt = absurd (omega (arith, lt))
object_at (x ∷ xs) zero lt = (x, refl)
object_at (x ∷ xs) (suc o) lt = object_at xs o (omega (arith, lt))

pub object_of-place : (xs : List Object) (o : ℕ) (p : Place) → place_in (slice_get xs o) ≡ Some p → (a : Object) × (slice_get xs o ≡ Some a) × (a.place ≡ p)
object_of-place [] o p e = absurd cc
object_of-place (x ∷ xs) zero p e = (x, refl, cc (e))
object_of-place (x ∷ xs) (suc o) p e = object_of-place xs o p e

pub each_object : (P : Object → Type 0) (xs : List Object) → AllByRecursion P xs → (o : ℕ) (a : Object) → slice_get xs o ≡ Some a → P a
each_object P [] all o a e = absurd cc
each_object P (x ∷ xs) all zero a e = let one : x ≡ a = cc (e) in subst P one all.0
each_object P (x ∷ xs) all (suc o) a e = each_object P xs all.1 o a e

pub all_objects : (P : Object → Type 0) (xs : List Object) → ((o : ℕ) (a : Object) → slice_get xs o ≡ Some a → P a) → AllByRecursion P xs
all_objects P [] each = tt
all_objects P (x ∷ xs) each = (each 0 x refl, all_objects P xs (λ o a e. each (suc o) a e))

-- ---- the two halves of a span

module _ (S : Shape) (sized : IsSized S) where
  some_part : (bits n b : ℕ) → 0 < bits → b ≡ S.word_bits → n ≡ parts_for bits b → 0 < n
  some_part bits n b pos is suffice = ⊎_elim
      (λ (e : S.word_bits ≡ 32). let r : n ≡ (bits + 32 - 1) / 32 = suffice ∙ ap (λ (z : ℕ). parts_for bits z) (is ∙ e) in omega (arith, r, pos))
      (λ (e : S.word_bits ≡ 64). let r : n ≡ (bits + 64 - 1) / 64 = suffice ∙ ap (λ (z : ℕ). parts_for bits z) (is ∙ e) in omega (arith, r, pos))
      sized.bits

  -- a place is not empty, and ends within 2 ^ 30 bits
  some_bits : (k : Kind) (p : Place) → IsPlaced S k p → (first_bit p < end_bit p) × (end_bit p ≤ 2 ^ 30)
  some_bits k (Lane w s d) placed = let pos = bits_pos k.width in let wide = placed.wide in let ends = placed.ends in let within = placed.within in let words = sized.words in (omega arith, omega arith)
  some_bits k (Parts l f n b) placed = let pos : 0 < n = some_part (bits_of k.width) n b (bits_pos k.width) placed.bits placed.suffice in let within = placed.within in let words = sized.words in (omega arith, omega arith)

  first_of : (k : Kind) (p : Place) → IsPlaced S k p → span_of p / 2 ^ 32 ≡ first_bit p
  first_of k p placed = let b = (some_bits k p placed).1 in div-mul-add (first_bit p) (2 ^ 32) (end_bit p) (omega (arith, b))

  end_of : (k : Kind) (p : Place) → IsPlaced S k p → span_of p % 2 ^ 32 ≡ end_bit p
  end_of k p placed = let b = (some_bits k p placed).1 in mod-mul-add (first_bit p) (2 ^ 32) (end_bit p) (omega (arith, b))

  pub is_span : (k : Kind) (p : Place) → IsPlaced S k p → IsSpan (span_of p)
  is_span k p placed = let a = first_of k p placed in let b = end_of k p placed in let c = (some_bits k p placed).0 in omega (arith, a, b, c)

  -- places are apart exactly where their spans are
  apart_bits : (k j : Kind) (p q : Place) → IsPlaced S k p → IsPlaced S j q → AreApart p q ↔ ((end_bit p ≤ first_bit q) ⊎ (end_bit q ≤ first_bit p))
  apart_bits k j (Lane w s d) (Lane v t e) a b =
      let de = a.ends in let ee = b.ends in (
        (λ f. dite (ℕ_discrete w v)
            (λ is. ⊎_elim (λ (x : s + d ≤ t). inl (omega (arith, is, x))) (λ (x : t + e ≤ s). inr (omega (arith, is, x))) (f is))
            (λ ne. ⊎_elim (λ (x : w < v). inl (omega (arith, x, de))) (λ (x : v ≤ w). inr (omega (arith, x, ne, ee))) (cases_lt w v))),
        (λ f is. ⊎_elim (λ (x : w * 64 + s + d ≤ v * 64 + t). inl (omega (arith, is, x))) (λ (x : v * 64 + t + e ≤ w * 64 + s). inr (omega (arith, is, x))) f),
      )
  apart_bits k j (Lane w s d) (Parts l g m c) a b =
      let de = a.ends in let pos = (some_bits k (Lane w s d) a).0 in (
        (λ f. ⊎_elim (λ (x : w < g). inl (omega (arith, x, de))) (λ (x : g + m ≤ w). inr (omega (arith, x))) f),
        (λ f. ⊎_elim (λ (x : w * 64 + s + d ≤ g * 64). inl (omega (arith, x, pos))) (λ (x : (g + m) * 64 ≤ w * 64 + s). inr (omega (arith, x, pos, de))) f),
      )
  apart_bits k j (Parts l f n b) (Lane v t e) a c =
      let ee = c.ends in let pos = (some_bits j (Lane v t e) c).0 in (
        (λ h. ⊎_elim (λ (x : v < f). inr (omega (arith, x, ee))) (λ (x : f + n ≤ v). inl (omega (arith, x))) h),
        (λ h. ⊎_elim (λ (x : (f + n) * 64 ≤ v * 64 + t). inr (omega (arith, x, pos, ee))) (λ (x : v * 64 + t + e ≤ f * 64). inl (omega (arith, x, pos))) h),
      )
  apart_bits k j (Parts l f n b) (Parts i g m c) a e = (
    (λ h. ⊎_elim (λ (x : f + n ≤ g). inl (omega (arith, x))) (λ (x : g + m ≤ f). inr (omega (arith, x))) h),
    (λ h. ⊎_elim (λ (x : (f + n) * 64 ≤ g * 64). inl (omega (arith, x))) (λ (x : (g + m) * 64 ≤ f * 64). inr (omega (arith, x))) h),
  )

  pub apart_spans : (k j : Kind) (p q : Place) → IsPlaced S k p → IsPlaced S j q → AreApart p q ↔ ApartSpans (span_of p) (span_of q)
  apart_spans k j p q a b =
      let t = apart_bits k j p q a b in
      (subst (λ (z : (ℕ × ℕ) × (ℕ × ℕ)). AreApart p q ↔ ((z.0.0 ≤ z.0.1) ⊎ (z.1.0 ≤ z.1.1)))
      (λ i. ((sym (end_of k p a) i, sym (first_of j q b) i), (sym (end_of j q b) i, sym (first_of k p a) i))) t)

  pub span_of_object : (xs : List Object) → AllByRecursion (IsObject S) xs → (o : ℕ) → o < length xs → IsSpan (span_in (slice_get xs o))
  span_of_object xs all o lt = let t = object_at xs o lt in subst (λ (z : Option Object). IsSpan (span_in z)) (sym t.1) (is_span t.0.kind t.0.place (each_object (IsObject S) xs all o t.0 t.1).placed)

-- ---- what the sorted spans tell

module _ (S : Shape) (sized : IsSized S) (objects : List Object) (all : AllByRecursion (IsObject S) objects) (xs ys : List ℕ) (same : length xs ≡ length objects)
    (filled : (k : ℕ) → k < length objects → slice_index xs k ≡ span_in (slice_get objects k)) (moved : IsPermutation xs ys) (sorted : IsSorted nat_cmp ys) where
  inside : (k : ℕ) → k < length xs → k < length objects
  inside k lt = omega (arith, same, lt)

  at_default : (zs : List ℕ) (k d : ℕ) → k < length zs → get_or zs k d ≡ get_or zs k 0
  at_default [] k d lt = absurd (omega (arith, lt))
  at_default (z ∷ zs) zero d lt = refl
  at_default (z ∷ zs) (suc k) d lt = at_default zs k d (omega (arith, lt))

  span_at : (k d : ℕ) → k < length xs → get_or xs k d ≡ span_in (slice_get objects k)
  span_at k d lt = at_default xs k d lt ∙ filled k (inside k lt)

  pub all_spans : All IsSpan xs
  all_spans = λ k d lt. subst IsSpan (sym (span_at k d lt)) (span_of_object S sized objects all k (inside k lt))

  pairs_from : AllApart objects → AllPairs ApartSpans xs
  pairs_from apart = λ i j d lt within. subst (λ (z : ℕ × ℕ). ApartSpans z.0 z.1) (λ k. (sym (span_at i d (omega (arith, lt, within))) k, sym (span_at j d within) k)) (apart i j lt (inside j within))

  pairs_to : AllPairs ApartSpans xs → AllApart objects
  pairs_to pairs = λ o p lt within. let lp : p < length xs = omega (arith, same, within) in
      subst (λ (z : ℕ × ℕ). ApartSpans z.0 z.1) (λ k. (span_at o 0 (omega (arith, lt, lp)) k, span_at p 0 lp k)) (pairs o p 0 lt lp)

  rises : (i j d : ℕ) → i ≤ j → j < length ys → get_or ys i d ≤ get_or ys j d
  rises i j d le within = IsNonDecreasingBy-from_sort (λ x. x) ys sorted i j d le within

  pub row_tells : are_in_row ys ≡ true ↔ AllApart objects
  row_tells = (
    (λ row. pairs_to (AllPairs-permutation ApartSpans turned_apart ys xs (IsPermutation-sym xs ys moved) (row_apart ys (All-permutation IsSpan xs ys moved all_spans) row))),
    (λ apart. apart_row ys (All-permutation IsSpan xs ys moved all_spans) rises (AllPairs-permutation ApartSpans turned_apart xs ys moved (pairs_from apart))),
  )

-- ---- the whole

module _ (S : Shape) (ok : IsShape S) where
  pub sizes : IsSized S
  sizes = record { bits = ok.bits; words = ok.words; some_lock = ok.some_lock; locks = ok.locks; objects = ok.objects }

  one_object : (o : ℕ) (a : Object) → slice_get S.objects o ≡ Some a → IsObject S a
  one_object o a at = record {
    kind = subst IsKind (kind_of-at S o a at) (ok.kinds o);
    start = subst (λ (z : ℕ × Kind). z.0 < values_of z.1) (λ i. (start_of-at S o a at i, kind_of-at S o a at i)) (ok.starts o);
    placed = subst (λ (k : Kind). IsPlaced S k a.place) (kind_of-at S o a at) (ok.placed o a.place (place_of-at S o a at));
    section = λ is. ok.section is o a.place (place_of-at S o a at);
  }

  pub objects_fit : AllByRecursion (IsObject S) S.objects
  objects_fit = all_objects (IsObject S) S.objects one_object

  pub objects_apart : AllApart S.objects
  objects_apart o p lt within =
      let a = object_at S.objects o (omega (arith, lt, within)) in let b = object_at S.objects p within in
      subst (λ (z : Option Object × Option Object). ApartSpans (span_in z.0) (span_in z.1)) (λ i. (sym a.1 i, sym b.1 i))
      ((apart_spans S sizes a.0.kind b.0.kind a.0.place b.0.place (one_object o a.0 a.1).placed (one_object p b.0 b.1).placed).0
      (ok.apart o p a.0.place b.0.place (place_of-at S o a.0 a.1) (place_of-at S p b.0 b.1) (λ e. omega (arith, lt, e))))

module _ (S : Shape) (sized : IsSized S) (all : AllByRecursion (IsObject S) S.objects) (apart : AllApart S.objects) where
  kind_fits : (o : ℕ) → IsKind (kind_of S o) × (start_of S o < values_of (kind_of S o))
  kind_fits o = go (slice_get S.objects o) refl
    where
      go : (z : Option Object) → slice_get S.objects o ≡ z → IsKind (kind_in z) × (start_in z < values_of (kind_in z))
      go None e = ((refl, refl), omega arith)
      go (Some a) e = let t = each_object (IsObject S) S.objects all o a e in (t.kind, t.start)

  one_apart : (o p : ℕ) (a b : Object) → slice_get S.objects o ≡ Some a → slice_get S.objects p ≡ Some b → o ≢ p → AreApart a.place b.place
  one_apart o p a b at bt ne =
      let inside : (q : ℕ) (c : Object) → slice_get S.objects q ≡ Some c → q < length S.objects = λ q c e. slice_get_within S.objects q c e in
      let back : (x y : ℕ) → x < y → y < length S.objects → (c e : Object) → slice_get S.objects x ≡ Some c → slice_get S.objects y ≡ Some e → ApartSpans (span_of c.place) (span_of e.place) =
      λ x y lt within c e ce ee. subst (λ (z : Option Object × Option Object). ApartSpans (span_in z.0) (span_in z.1)) (λ i. (ce i, ee i)) (apart x y lt within) in
      (apart_spans S sized a.kind b.kind a.place b.place (each_object (IsObject S) S.objects all o a at).placed (each_object (IsObject S) S.objects all p b bt).placed).1
      (⊎_elim
      (λ (lt : o < p). back o p lt (inside p b bt) a b at bt)
      (λ (ge : p ≤ o). turned_apart (span_of b.place) (span_of a.place) (back p o (omega (arith, ge, ne)) (inside o a at) b a bt at))
      (cases_lt o p))

  pub shape_is : IsShape S
  shape_is = record {
    bits = sized.bits;
    words = sized.words;
    some_lock = sized.some_lock;
    locks = sized.locks;
    objects = sized.objects;
    kinds = λ o. (kind_fits o).0;
    starts = λ o. (kind_fits o).1;
    placed = λ o p e. let t = object_of-place S.objects o p e in subst (λ (z : Kind × Place). IsPlaced S z.0 z.1) (λ i. (sym (kind_of-at S o t.0 t.1) i, t.2 i)) (each_object (IsObject S) S.objects all o t.0 t.1).placed;
    apart = λ o q p r e f ne. let a = object_of-place S.objects o p e in let b = object_of-place S.objects q r f in
        subst (λ (z : Place × Place). AreApart z.0 z.1) (λ i. (a.2 i, b.2 i)) (one_apart o q a.0 b.0 a.1 b.1 ne);
    section = λ is o p e. let t = object_of-place S.objects o p e in subst IsInSection t.2 ((each_object (IsObject S) S.objects all o t.0 t.1).section is);
  }
