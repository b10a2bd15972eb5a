-- The shape of cells without a fault is a valid one.
use Rattle.std.proofs.Common.{◌≡◌, ℕ, zero, suc, ◌+◌, ◌-◌, ◌%◌, ◌<◌, ◌≤◌, Bool, true, List, [], ◌∷◌, ◌++◌, length, take, drop, get_or, append_assoc, append-nil, map, Option, Some, None, slice_get, refl, ap, sym, ◌∙◌, subst, arith, if◌then◌else◌}
use Rattle.std.proofs.Math.Seq.{take-length}
use Rattle.std.specs.List.{AllByRecursion}
use Rattle.std.specs.Prelude.{max}
use Rattle.op_table.specs.Kind.{bytes_of}
use Rattle.target_desc.specs.declared.target.Target.{Target}
use Rattle.target_desc.specs.Target.{IsTarget}
use Rattle.place_core.specs.declared.places.Object.{Object}
use Rattle.place_core.specs.Shapes.{IsShape, IsPlaced, most_in_shape}
use Rattle.place_core.specs.Validity.{IsSized, IsObject, span_of, span_in, ApartSpans, AllApart}
use Rattle.place_core.proofs.ShapeTests.{all_objects, apart_spans, shape_is}
use Rattle.layout_plan.specs.Layout.{word_bytes, alignment_of, place_at, words_for}
use Rattle.layout_plan.proofs.Seating.{words_within, places_apart, is_placed}
use Rattle.sized_calls.specs.declared.cells.Cell.{Cell}
use Rattle.sized_calls.specs.Sizes.{is_size}
use Rattle.sized_calls.specs.Cells.{cell_end, most_bytes, faults_from, first_fault, kind_of_size, cell_object, last_end, cell_shape}
use Rattle.sized_calls.proofs.CellKinds.{kind_bytes, kind_values, kind_is}
use Rattle.sized_calls.proofs.Soundness.{IsSound, first_is, others_are, last_near, each, rise}

inside : {A : Type 0} (x y : A) → Some x ≡ Some y → x ≡ y
inside x y e = cc

-- ---- objects

pub count_is : (t : Target) (cells : List Cell) → length (map (cell_object t) cells) ≡ length cells
count_is t [] = refl
count_is t (c ∷ cs) = ap suc (count_is t cs)

-- object n is that of cell n
pub object_is : (t : Target) (cells : List Cell) (o : ℕ) (c : Cell) → slice_get cells o ≡ Some c → slice_get (map (cell_object t) cells) o ≡ Some (cell_object t c)
object_is t [] o c at = absurd cc
object_is t (d ∷ cs) zero c at = ap (λ (x : Cell). Some (cell_object t x)) (inside d c at)
object_is t (d ∷ cs) (suc o) c at = object_is t cs o c at

pub cell_for : (t : Target) (cells : List Cell) (o : ℕ) (a : Object) → slice_get (map (cell_object t) cells) o ≡ Some a → (c : Cell) × (slice_get cells o ≡ Some c) × (cell_object t c ≡ a)
cell_for t [] o a at = absurd cc
cell_for t (d ∷ cs) zero a at = (d, refl, inside (cell_object t d) a at)
cell_for t (d ∷ cs) (suc o) a at = cell_for t cs o a at

pub cell_within : (cells : List Cell) (o : ℕ) → o < length cells → (c : Cell) × (slice_get cells o ≡ Some c)
cell_within [] o lt = absurd (omega (arith, lt))
cell_within (c ∷ cs) zero lt = (c, refl)
cell_within (c ∷ cs) (suc o) lt = cell_within cs o (omega (arith, lt))

-- ---- addresses

pub aligned : (t : Target) → t.packed ≡ true → (end : ℕ) (c : Cell) → IsSound t end c → c.address % alignment_of t (kind_of_size c.size) ≡ 0
aligned t packed end c s =
    let bytes : alignment_of t (kind_of_size c.size) ≡ c.size =
    ap (λ (b : Bool). if b then bytes_of (kind_of_size c.size) else max (bytes_of (kind_of_size c.size)) (word_bytes t)) packed ∙ kind_bytes c.size s.size in
    ap (λ (n : ℕ). c.address % n) bytes ∙ s.aligned

pub end_is : (c : Cell) → is_size c.size ≡ true → c.address + bytes_of (kind_of_size c.size) ≡ cell_end c
end_is c size = ap (λ (n : ℕ). c.address + n) (kind_bytes c.size size)

no_section : (t : Target) → IsTarget t → t.packed ≡ true → t.section ≡ true → ⊥
no_section t ok packed is = let apart = (ok.section is).apart in absurd cc

-- ---- the whole

module _ (t : Target) (ok : IsTarget t) (packed : t.packed ≡ true) (cells : List Cell) (most : length cells ≤ most_in_shape) (none : first_fault t cells ≡ None) where
  sound_at : (o : ℕ) (c : Cell) → slice_get cells o ≡ Some c → IsSound t 0 c × (cell_end c ≤ last_end 0 cells)
  sound_at o c at = each t 0 0 cells none o c at

  sized : IsSized (cell_shape t cells)
  sized = record {
    bits = ok.bits;
    words = words_within t ok (last_end 0 cells) (last_near t 0 0 cells none (omega arith));
    some_lock = ok.some;
    locks = ok.most;
    objects = let count = count_is t cells in omega (arith, count, most);
  }

  placed : (o : ℕ) (c : Cell) → slice_get cells o ≡ Some c → IsPlaced (cell_shape t cells) (kind_of_size c.size) (place_at t (kind_of_size c.size) c.address)
  placed o c at =
      let s = sound_at o c at in
      let within = s.1 in
      let end = end_is c s.0.size in
      is_placed t ok (kind_of_size c.size) c.address (last_end 0 cells) (map (cell_object t) cells) (aligned t packed 0 c s.0) (omega (arith, within, end))

  object_fits : (o : ℕ) (c : Cell) → slice_get cells o ≡ Some c → IsObject (cell_shape t cells) (cell_object t c)
  object_fits o c at =
      let s = (sound_at o c at).0 in
      record {
        kind = kind_is c.size s.size;
        start = subst (λ (n : ℕ). c.start < n) (sym (kind_values c.size s.size)) s.start;
        placed = placed o c at;
        section = λ is. absurd (no_section t ok packed is);
      }

  objects_fit : AllByRecursion (IsObject (cell_shape t cells)) (map (cell_object t) cells)
  objects_fit = all_objects (IsObject (cell_shape t cells)) (map (cell_object t) cells) (λ o a at.
      let c = cell_for t cells o a at in subst (IsObject (cell_shape t cells)) c.2 (object_fits o c.0 c.1))

  cells_apart : (o p : ℕ) (c d : Cell) → o < p → slice_get cells o ≡ Some c → slice_get cells p ≡ Some d → ApartSpans (span_of (cell_object t c).place) (span_of (cell_object t d).place)
  cells_apart o p c d lt at bt =
      let a = (sound_at o c at).0 in
      let b = (sound_at p d bt).0 in
      let end = end_is c a.size in
      let before = rise t 0 0 cells none o p c d lt at bt in
      (apart_spans (cell_shape t cells) sized (kind_of_size c.size) (kind_of_size d.size) (place_at t (kind_of_size c.size) c.address) (place_at t (kind_of_size d.size) d.address)
      (placed o c at) (placed p d bt)).0
      (places_apart t ok (kind_of_size c.size) (kind_of_size d.size) c.address d.address (aligned t packed 0 c a) (aligned t packed 0 d b) (omega (arith, end, before)))

  objects_apart : AllApart (map (cell_object t) cells)
  objects_apart o p lt within =
      let count = count_is t cells in
      let c = cell_within cells o (omega (arith, count, lt, within)) in
      let d = cell_within cells p (omega (arith, count, within)) in
      subst (λ (z : Option Object × Option Object). ApartSpans (span_in z.0) (span_in z.1)) (λ i. (sym (object_is t cells o c.0 c.1) i, sym (object_is t cells p d.0 d.1) i))
      (cells_apart o p c.0 d.0 lt c.1 d.1)

  pub cells_are_shape : IsShape (cell_shape t cells)
  cells_are_shape = shape_is (cell_shape t cells) sized objects_fit objects_apart

-- ---- the walk that lays them

-- what was laid, and what the others add, is the whole shape
pub record IsWalk (t : Target) (cells : List Cell) (laid : List Object) (end : ℕ) (rest : List Cell) : Type 0 where
  pub whole : laid ++ map (cell_object t) rest ≡ map (cell_object t) cells
  pub last : last_end end rest ≡ last_end 0 cells
  pub number : ℕ
  pub none : faults_from t number end rest ≡ None
  pub near : end ≤ most_bytes t

pub walk_begins : (t : Target) (cells : List Cell) (laid : List Object) → laid ≡ [] → first_fault t cells ≡ None → IsWalk t cells laid 0 cells
walk_begins t cells laid empty none = record { whole = ap (λ (xs : List Object). xs ++ map (cell_object t) cells) empty; last = refl; number = 0; none = none; near = omega arith }

others_of : (c : Cell) (cs : List Cell) → take (length (c ∷ cs) - 1) (drop 1 (c ∷ cs)) ≡ cs
others_of c cs = let short : length (c ∷ cs) - 1 ≡ length cs = omega arith in ap (λ (n : ℕ). take n cs) short ∙ take-length cs

pub walk_more : (t : Target) (cells : List Cell) (laid more : List Object) (end next : ℕ) (rest : List Cell) (d : Cell) → 1 ≤ length rest → more ≡ laid ++ cell_object t (get_or rest 0 d) ∷ [] → next ≡ cell_end (get_or rest 0 d)
    → IsWalk t cells laid end rest → IsWalk t cells more next (take (length rest - 1) (drop 1 rest))
walk_more t cells laid more end next [] d some is at w = absurd (omega (arith, some))
walk_more t cells laid more end next (c ∷ cs) d some is at w = subst (λ (z : (List Object × ℕ) × List Cell). IsWalk t cells z.0.0 z.0.1 z.1) (λ i. ((sym is i, sym at i), sym (others_of c cs) i)) (record {
  whole = append_assoc laid (cell_object t c ∷ []) (map (cell_object t) cs) ∙ w.whole;
  last = w.last;
  number = w.number + 1;
  none = others_are t w.number end c cs w.none;
  near = (first_is t w.number end c cs w.none).near;
})

pub walk_is_shape : (t : Target) (cells rest : List Cell) (end words : ℕ) (laid os : List Object) → length rest < 1 → IsWalk t cells laid end rest → words ≡ words_for t end → os ≡ laid
    → IsTarget t → t.packed ≡ true → length cells ≤ most_in_shape → first_fault t cells ≡ None
    → IsShape (record { word_bits = t.word_bits; steps = t.steps; section = t.section; words = words; locks = t.locks; objects = os })
walk_is_shape t cells [] end words laid os empty w is are ok packed most none =
    let all : map (cell_object t) cells ≡ os = sym (are ∙ (sym (append-nil laid) ∙ w.whole)) in
    let bytes : words_for t (last_end 0 cells) ≡ words = sym (is ∙ ap (words_for t) w.last) in
    subst (λ (p : ℕ × List Object). IsShape (record { word_bits = t.word_bits; steps = t.steps; section = t.section; words = p.0; locks = t.locks; objects = p.1 })) (λ i. (bytes i, all i)) (cells_are_shape t ok packed cells most none)
walk_is_shape t cells (c ∷ rest) end words laid os empty w is are ok packed most none = absurd (omega (arith, empty))
