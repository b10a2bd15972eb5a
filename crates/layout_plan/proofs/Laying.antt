-- What is laid is a shape: objects lie in order, each behind those before it.
use Rattle.std.proofs.Common.{◌≡◌, ℕ, zero, suc, ◌+◌, ◌*◌, ◌%◌, ◌<◌, ◌≤◌, List, [], ◌∷◌, ◌++◌, length, refl, ap, sym, ◌∙◌, subst, arith, slice_get, append-nil}
use Rattle.op_table.specs.declared.kind.Kind.{Kind}
use Rattle.op_table.specs.Kind.{bytes_of}
use Rattle.target_desc.specs.declared.target.Target.{Target}
use Rattle.target_desc.specs.Target.{IsTarget}
use Rattle.place_core.specs.declared.name.Declared.{Declared}
use Rattle.place_core.specs.declared.places.Object.{Object}
use Rattle.place_core.specs.Shapes.{IsShape, most_in_shape}
use Rattle.place_core.specs.Validity.{IsSized, IsObject, span_of, span_in, ApartSpans, AllApart}
use Rattle.place_core.proofs.ShapeTests.{apart_spans, shape_is}
use Rattle.std.specs.List.{AllByRecursion}
use Rattle.layout_plan.specs.Layout.{AreDeclared, alignment_of, next_address, place_after, end_from, place_at, objects_from, words_for, shape_of}
use Rattle.layout_plan.specs.Laws.{LaidIsShape}
use Rattle.layout_plan.proofs.Seating.{shape_with, next_at, few_bytes, few_words, places_apart, is_placed, in_section}

pub length-objects_from : (t : Target) (after : ℕ) (xs : List Declared) → length (objects_from t after xs) ≡ length xs
length-objects_from t after [] = refl
length-objects_from t after (x ∷ xs) = ap suc (length-objects_from t (place_after t after x.kind) xs)

module _ (t : Target) (ok : IsTarget t) where
  pub end_from-least : (after : ℕ) (xs : List Declared) → after ≤ end_from t after xs
  end_from-least after [] = omega arith
  end_from-least after (x ∷ xs) =
      let here = (next_at t ok after x.kind).least in let more = end_from-least (place_after t after x.kind) xs in
      omega (arith, here, more)

  pub end_from-most : (after : ℕ) (xs : List Declared) → end_from t after xs ≤ after + 32 * length xs
  end_from-most after [] = omega arith
  end_from-most after (x ∷ xs) =
      let here = few_bytes t ok after x.kind in let more = end_from-most (place_after t after x.kind) xs in
      omega (arith, here, more)

  module _ (e : ℕ) (os : List Object) (sized : IsSized (shape_with t e os)) where
    objects_are : (after : ℕ) (xs : List Declared) → AreDeclared xs → end_from t after xs ≤ e → AllByRecursion (IsObject (shape_with t e os)) (objects_from t after xs)
    objects_are after [] each le = tt
    objects_are after (x ∷ xs) each le =
        let next = next_at t ok after x.kind in
        let more = end_from-least (place_after t after x.kind) xs in (
          record {
            kind = each.0.0;
            start = each.0.1;
            placed = is_placed t ok x.kind (next_address t after x.kind) e os next.aligned (omega (arith, more, le));
            section = λ is. in_section t ok x.kind (next_address t after x.kind) is;
          },
          objects_are (place_after t after x.kind) xs each.1 le,
        )

    -- an object's place is apart from those of objects laid behind it
    apart_from : (k : Kind) (a after : ℕ) (xs : List Declared) → a % alignment_of t k ≡ 0 → a + bytes_of k ≤ after → end_from t after xs ≤ e
        → (p : ℕ) → p < length (objects_from t after xs) → ApartSpans (span_of (place_at t k a)) (span_in (slice_get (objects_from t after xs) p))
    apart_from k a after [] at le within p lt = absurd (omega (arith, lt))
    apart_from k a after (x ∷ xs) at le within zero lt =
        let next = next_at t ok after x.kind in let b : ℕ = next_address t after x.kind in
        let least = next.least in
        let more = end_from-least (place_after t after x.kind) xs in
        let bt : b % alignment_of t x.kind ≡ 0 = next.aligned in
        (apart_spans (shape_with t e os) sized k x.kind (place_at t k a) (place_at t x.kind b)
        (is_placed t ok k a e os at (omega (arith, le, least, more, within)))
        (is_placed t ok x.kind b e os bt (omega (arith, more, within)))).0
        (places_apart t ok k x.kind a b at bt (omega (arith, le, least)))
    apart_from k a after (x ∷ xs) at le within (suc p) lt =
        let least = (next_at t ok after x.kind).least in
        apart_from k a (place_after t after x.kind) xs at (omega (arith, le, least)) within p (omega (arith, lt))

    all_apart : (after : ℕ) (xs : List Declared) → end_from t after xs ≤ e → AllApart (objects_from t after xs)
    all_apart after [] within o p lt lp = absurd (omega (arith, lp))
    all_apart after (x ∷ xs) within zero zero lt lp = absurd (omega (arith, lt))
    all_apart after (x ∷ xs) within zero (suc p) lt lp =
        apart_from x.kind (next_address t after x.kind) (place_after t after x.kind) xs (next_at t ok after x.kind).aligned (omega arith) within p (omega (arith, lp))
    all_apart after (x ∷ xs) within (suc o) zero lt lp = absurd (omega (arith, lt))
    all_apart after (x ∷ xs) within (suc o) (suc p) lt lp = all_apart (place_after t after x.kind) xs within o p (omega (arith, lt)) (omega (arith, lp))

pub laid_is_shape : LaidIsShape
laid_is_shape t xs ok each most =
    let bytes = end_from-most t ok 0 xs in
    let count = length-objects_from t 0 xs in
    let sized : IsSized (shape_of t xs) = record {
      bits = ok.bits;
      words = few_words t ok (end_from t 0 xs) (omega (arith, bytes, most));
      some_lock = ok.some;
      locks = ok.most;
      objects = omega (arith, count, most);
    } in
    shape_is (shape_of t xs) sized
    (objects_are t ok (end_from t 0 xs) (objects_from t 0 xs) sized 0 xs each (omega arith))
    (all_apart t ok (end_from t 0 xs) (objects_from t 0 xs) sized 0 xs (omega arith))

-- the walk over all objects has laid the shape
pub walk_is_shape : (t : Target) (xs rest : List Declared) (after words : ℕ) (laid os : List Object) → length rest < 1
    → laid ++ objects_from t after rest ≡ objects_from t 0 xs → end_from t after rest ≡ end_from t 0 xs → words ≡ words_for t after → os ≡ laid
    → IsTarget t → AreDeclared xs → length xs ≤ most_in_shape
    → IsShape (record { word_bits = t.word_bits; steps = t.steps; section = t.section; words = words; locks = t.locks; objects = os })
walk_is_shape t xs [] after words laid os none whole last is are ok each most =
    let all : objects_from t 0 xs ≡ os = sym (are ∙ (sym (append-nil laid) ∙ whole)) in
    let bytes : words_for t (end_from t 0 xs) ≡ words = sym (is ∙ ap (words_for t) last) in
    subst (λ (p : ℕ × List Object). IsShape (record { word_bits = t.word_bits; steps = t.steps; section = t.section; words = p.0; locks = t.locks; objects = p.1 })) (λ i. (bytes i, all i)) (laid_is_shape t xs ok each most)
walk_is_shape t xs (x ∷ rest) after words laid os none whole last is are ok each most = absurd (omega (arith, none))
