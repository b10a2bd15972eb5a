-- In a legal history of a valid shape each value is one of its object's kind.
use Rattle.std.proofs.Common.{◌≡◌, ℕ, zero, suc, ◌<◌, ◌==◌, Bool, if◌then◌else◌, List, [], ◌∷◌, ◌++◌, refl, ap, sym, ◌∙◌, subst, arith, eq-eqb, ne_eqb, Option, Some, None, slice_get}
use Rattle.std.specs.Prelude.{map, IsSomeAnd}
use Rattle.std.proofs.lemmas.Nat.{pow_pos}
use mathlib.Core.Logic.{dite}
use native.Mathlib.Decide.{ℕ_discrete}
use Rattle.op_table.specs.declared.kind.Kind.{Kind}
use Rattle.op_table.specs.declared.call.Reply.{Reply}
use Rattle.op_table.specs.declared.call.Reply.TheVariants as reply
use Rattle.op_table.specs.Kind.{bits_of, values_of, IsKind}
use Rattle.op_table.specs.Call.{after_of, Permits, CallFits}
use Rattle.op_table.proofs.Rows.{after_fits}
use Rattle.place_core.specs.declared.entry.Entry.{Entry}
use Rattle.place_core.specs.declared.places.Object.{Object}
use Rattle.place_core.specs.declared.places.Place.{Place}
use Rattle.place_core.specs.declared.shape.Shape.{Shape}
use Rattle.place_core.specs.Histories.{Each, value_from}
use Rattle.place_core.specs.Cells.{Cell, effect_of, left_by, value_in, value_of, IsLawful, IsLegal}
use Rattle.place_core.specs.Shapes.{place_of, kind_of, start_of, kind_in, start_in, cells_of_shape, IsShape}
use Rattle.place_core.proofs.CellValues.{value_of-own, value_of-start, value_of-there}
use Rattle.place_core.proofs.ShapeFacts.{kind_of-at}
use Rattle.place_core.proofs.ShapeTests.{object_of-place}

abbrev pub cell_of : Object → Cell
cell_of a = record { kind = a.kind; start = a.start }

cell_in : (xs : List Object) (o : ℕ) (a : Object) → slice_get xs o ≡ Some a → slice_get (map (λ (b : Object). cell_of b) xs) o ≡ Some (cell_of a)
cell_in [] o a e = absurd cc
cell_in (x ∷ xs) zero a e = let one : x ≡ a = cc (e) in ap (λ (b : Object). Some (cell_of b)) one
cell_in (x ∷ xs) (suc o) a e = cell_in xs o a e

no_cell : (xs : List Object) (o : ℕ) → slice_get xs o ≡ None → slice_get (map (λ (b : Object). cell_of b) xs) o ≡ None
no_cell [] o e = refl
no_cell (x ∷ xs) zero e = absurd cc
no_cell (x ∷ xs) (suc o) e = no_cell xs o e

pub cell_at : (S : Shape) (o : ℕ) (a : Object) → slice_get S.objects o ≡ Some a → slice_get (cells_of_shape S) o ≡ Some (cell_of a)
cell_at S o a e = cell_in S.objects o a e

-- an entry on an object that is there
pub value_own : (S : Shape) (H : List Entry) (x : Entry) (p : Place) → place_of S x.object ≡ Some p
    → value_of (cells_of_shape S) (H ++ x ∷ []) x.object ≡ left_by (kind_of S x.object) x (value_of (cells_of_shape S) H x.object)
value_own S H x p there = let t = object_of-place S.objects x.object p there in
    value_of-own (cells_of_shape S) H x x.object (cell_of t.0) (cell_at S x.object t.0 t.1) refl
    ∙ ap (λ (k : Kind). left_by k x (value_of (cells_of_shape S) H x.object)) (sym (kind_of-at S x.object t.0 t.1))

pub effect_fits : (r : Reply) (next v m : ℕ) → next < m → v < m → effect_of r next v < m
effect_fits reply.Unit next v m a b = a
effect_fits (reply.Value r) next v m a b = a
effect_fits (reply.Bit r) next v m a b = a
effect_fits (reply.Done r) next v m a b = a
effect_fits (reply.Failed r) next v m a b = b

run_fits : (k : Kind) → IsKind k → (o v : ℕ) (H : List Entry) → v < values_of k → ((before : List Entry) (x : Entry) (rest : List Entry) → H ≡ before ++ x ∷ rest → x.object ≡ o → CallFits k x.call)
    → value_from (λ (x : Entry). x.object) (left_by k) o v H < values_of k
unfolding value_from
run_fits k valid o v [] lt fit = lt
run_fits k valid o v (x ∷ xs) lt fit = run_fits k valid o (if x.object == o then left_by k x v else v) xs
    (dite (ℕ_discrete x.object o)
    (λ e. subst (λ (b : Bool). (if b then left_by k x v else v) < values_of k) (sym (eq-eqb x.object o e)) (effect_fits x.reply (after_of k x.call v) v (values_of k) (after_fits k x.call v valid (fit [] x xs refl e) lt) lt))
    (λ ne. subst (λ (b : Bool). (if b then left_by k x v else v) < values_of k) (sym (ne_eqb x.object o ne)) lt))
    (λ before y rest e. fit (x ∷ before) y rest (ap (λ (l : List Entry). x ∷ l) e))

lawful_call : (S : Shape) (G : List Entry) (x : Entry) (a : Object) → slice_get S.objects x.object ≡ Some a → IsLawful (cells_of_shape S) G x → CallFits a.kind x.call
lawful_call S G x a at law =
    let here : IsSomeAnd (Some (cell_of a)) (λ (cell : Cell). let v = value_of (cells_of_shape S) G x.object in CallFits cell.kind x.call × Permits cell.kind x.call v x.reply (left_by cell.kind x v)) =
    subst (λ (z : Option Cell). IsSomeAnd z (λ (cell : Cell). let v = value_of (cells_of_shape S) G x.object in CallFits cell.kind x.call × Permits cell.kind x.call v x.reply (left_by cell.kind x v))) (cell_at S x.object a at) law in
    here.0

pub value_fits : (S : Shape) → IsShape S → (H : List Entry) → IsLegal (cells_of_shape S) H → (o : ℕ) → value_of (cells_of_shape S) H o < values_of (kind_of S o)
unfolding Each
value_fits S ok H legal o = go (slice_get S.objects o) refl
  where
    go : (z : Option Object) → slice_get S.objects o ≡ z → value_of (cells_of_shape S) H o < values_of (kind_of S o)
    go None e =
        let none : value_of (cells_of_shape S) H o ≡ 0 = ap (λ (c : Option Cell). value_in c H o) (no_cell S.objects o e) in
        let pos = pow_pos (bits_of (kind_of S o).width) in omega (arith, none, pos)
    go (Some a) e =
        let kind : kind_of S o ≡ a.kind = kind_of-at S o a e in
        let start : a.start < values_of a.kind = subst (λ (z : Option Object). start_in z < values_of (kind_in z)) e (ok.starts o) in
        let valid : IsKind a.kind = subst IsKind kind (ok.kinds o) in
        let run : value_in (Some (cell_of a)) H o < values_of a.kind = run_fits a.kind valid o a.start H start
        (λ before x rest split same. lawful_call S before x a (ap (slice_get S.objects) same ∙ e) (legal before x rest split)) in
        subst (λ (z : Kind). value_of (cells_of_shape S) H o < values_of z) (sym kind)
        (subst (λ (z : ℕ). z < values_of a.kind) (sym (value_of-there (cells_of_shape S) H o (cell_of a) (cell_at S o a e))) run)

-- ---- starts

start_in_cell : (S : Shape) (o : ℕ) (z : Option Object) → slice_get S.objects o ≡ z → value_of (cells_of_shape S) [] o ≡ start_in z
start_in_cell S o None e = ap (λ (c : Option Cell). value_in c [] o) (no_cell S.objects o e)
start_in_cell S o (Some a) e = value_of-start (cells_of_shape S) o (cell_of a) (cell_at S o a e)

pub value_start : (S : Shape) (o : ℕ) → value_of (cells_of_shape S) [] o ≡ start_of S o
value_start S o = start_in_cell S o (slice_get S.objects o) refl

-- ---- an entry that leaves its object's value

after_in : (S : Shape) (H : List Entry) (x : Entry) (z : Option Object) → slice_get S.objects x.object ≡ z → left_by (kind_in z) x (value_of (cells_of_shape S) H x.object) ≡ value_of (cells_of_shape S) H x.object
    → value_of (cells_of_shape S) (H ++ x ∷ []) x.object ≡ value_of (cells_of_shape S) H x.object
after_in S H x None e kept = ap (λ (c : Option Cell). value_in c (H ++ x ∷ []) x.object) (no_cell S.objects x.object e) ∙ sym (ap (λ (c : Option Cell). value_in c H x.object) (no_cell S.objects x.object e))
after_in S H x (Some a) e kept = value_of-own (cells_of_shape S) H x x.object (cell_of a) (cell_at S x.object a e) refl ∙ kept

pub value_after : (S : Shape) (H : List Entry) (x : Entry) → left_by (kind_of S x.object) x (value_of (cells_of_shape S) H x.object) ≡ value_of (cells_of_shape S) H x.object
    → value_of (cells_of_shape S) (H ++ x ∷ []) x.object ≡ value_of (cells_of_shape S) H x.object
value_after S H x kept = after_in S H x (slice_get S.objects x.object) refl kept
