-- The reply to a call has the form of its answers.
use Rattle.std.proofs.Common.{◌≡◌, ℕ, ◌<◌, ◌==◌, Bool, true, false, if◌then◌else◌, List, [], ◌∷◌, ◌++◌, length, refl, ap, sym, ◌∙◌, subst, Option, Some, slice_get, inl, inr}
use Rattle.std.specs.Prelude.{IsSomeAnd}
use Rattle.op_table.specs.declared.kind.Kind.{Kind}
use Rattle.op_table.specs.declared.call.Call.{Call}
use Rattle.op_table.specs.declared.call.Call.TheVariants.{Store, Cas, CasWeak, Add, Sub, And, Or, Xor, Not, Neg, BitSet, BitClear, BitToggle, AddFetch, SubFetch, AndFetch, NandFetch, OrFetch, XorFetch}
use Rattle.op_table.specs.declared.call.Reply.{Reply}
use Rattle.op_table.specs.declared.call.Reply.TheVariants as reply
use Rattle.op_table.specs.Kind.{values_of, IsKind}
use Rattle.op_table.specs.Call.{after_of, answer_of, unless_quiet, Permits, IsSpurious, CallFits}
use Rattle.op_table.proofs.Rows.{after_fits}
use Rattle.place_core.specs.declared.entry.Entry.{Entry}
use Rattle.place_core.specs.declared.places.Object.{Object}
use Rattle.place_core.specs.declared.shape.Shape.{Shape}
use Rattle.place_core.specs.Cells.{Cell, left_by, value_of, IsLawful, IsLegal}
use Rattle.place_core.specs.Shapes.{kind_of, cells_of_shape, IsShape}
use Rattle.place_core.proofs.CellValues.{value_of-own}
use Rattle.place_core.proofs.EntryLists.{Each-append_left, Each-at}
use Rattle.place_core.proofs.LegalValues.{cell_of, cell_at, value_fits}
use Rattle.place_core.proofs.ShapeFacts.{kind_of-at}
use Rattle.place_core.proofs.ShapeTests.{object_at}
use Rattle.seat_views.specs.Steps.{entry}
use Rattle.seat_views.specs.States.{PassState}
use Rattle.seat_views.specs.Makes.{MakesCall}
use Rattle.atomic_types.specs.Atomics.{HasForm, form_unless_quiet, form_of}
use Rattle.atomic_types.specs.Atomics as form

-- ---- by the table

quiet_form : (kind : Kind) (v : ℕ) → v < values_of kind → (q : Bool) → HasForm (form_unless_quiet q) kind (unless_quiet q v)
quiet_form kind v small true = tt
quiet_form kind v small false = small

exchange_form : (kind : Kind) (v : ℕ) → v < values_of kind → (made : Bool) → HasForm form.Exchanged kind (if made then reply.Done v else reply.Failed v)
exchange_form kind v small true = small
exchange_form kind v small false = small

answer_form : (kind : Kind) (call : Call) (v : ℕ) → IsKind kind → CallFits kind call → v < values_of kind → HasForm (form_of call) kind (answer_of kind call v)
answer_form kind (Store a) v valid fits small = tt
answer_form kind (Cas e n) v valid fits small = exchange_form kind v small (v == e)
answer_form kind (CasWeak e n) v valid fits small = exchange_form kind v small (v == e)
answer_form kind (Add a q) v valid fits small = quiet_form kind v small q
answer_form kind (Sub a q) v valid fits small = quiet_form kind v small q
answer_form kind (And a q) v valid fits small = quiet_form kind v small q
answer_form kind (Or a q) v valid fits small = quiet_form kind v small q
answer_form kind (Xor a q) v valid fits small = quiet_form kind v small q
answer_form kind (Not q) v valid fits small = quiet_form kind v small q
answer_form kind (Neg q) v valid fits small = quiet_form kind v small q
answer_form kind (BitSet p) v valid fits small = tt
answer_form kind (BitClear p) v valid fits small = tt
answer_form kind (BitToggle p) v valid fits small = tt
answer_form kind (AddFetch a) v valid fits small = after_fits kind (AddFetch a) v valid fits small
answer_form kind (SubFetch a) v valid fits small = after_fits kind (SubFetch a) v valid fits small
answer_form kind (AndFetch a) v valid fits small = after_fits kind (AndFetch a) v valid fits small
answer_form kind (NandFetch a) v valid fits small = after_fits kind (NandFetch a) v valid fits small
answer_form kind (OrFetch a) v valid fits small = after_fits kind (OrFetch a) v valid fits small
answer_form kind (XorFetch a) v valid fits small = after_fits kind (XorFetch a) v valid fits small
answer_form kind _ v valid fits small = small

-- a weak exchange may fail besides
spurious_form : (kind : Kind) (call : Call) (v : ℕ) (r : Reply) (w : ℕ) → v < values_of kind → IsSpurious call v r w → HasForm (form_of call) kind r
spurious_form kind (CasWeak e n) v r w small s = subst (λ (z : Reply). HasForm form.Exchanged kind z) (sym s.1) small
spurious_form kind _ v r w small s = absurd s

permitted_form : (kind : Kind) (call : Call) (v : ℕ) (r : Reply) (w : ℕ) → IsKind kind → CallFits kind call → v < values_of kind → Permits kind call v r w → HasForm (form_of call) kind r
permitted_form kind call v r w valid fits small permitted = elim permitted [
  | inl h ↦ subst (λ (z : Reply). HasForm (form_of call) kind z) (sym h.0) (answer_form kind call v valid fits small)
  | inr s ↦ spurious_form kind call v r w small s
]

-- ---- the value after

not_after : (q : Bool) → form_unless_quiet q ≡ form.After → ⊥
not_after true is = cc
not_after false is = cc

-- a call that answers the value after it answers what it leaves
new_value : (kind : Kind) (call : Call) (v n : ℕ) → form_of call ≡ form.After → reply.Value n ≡ answer_of kind call v → after_of kind call v ≡ n
new_value kind (AddFetch a) v n is e = sym (cc e)
new_value kind (SubFetch a) v n is e = sym (cc e)
new_value kind (AndFetch a) v n is e = sym (cc e)
new_value kind (NandFetch a) v n is e = sym (cc e)
new_value kind (OrFetch a) v n is e = sym (cc e)
new_value kind (XorFetch a) v n is e = sym (cc e)
new_value kind (Add a q) v n is e = absurd (not_after q is)
new_value kind (Sub a q) v n is e = absurd (not_after q is)
new_value kind (And a q) v n is e = absurd (not_after q is)
new_value kind (Or a q) v n is e = absurd (not_after q is)
new_value kind (Xor a q) v n is e = absurd (not_after q is)
new_value kind (Not q) v n is e = absurd (not_after q is)
new_value kind (Neg q) v n is e = absurd (not_after q is)
new_value kind _ v n is e = absurd cc

-- what fails spuriously answers that it failed
not_spurious : (call : Call) (v n w : ℕ) → IsSpurious call v (reply.Value n) w → ⊥
not_spurious (CasWeak e m) v n w s = let told : reply.Value n ≡ reply.Failed v = s.1 in cc
not_spurious _ v n w s = s

left_after : (kind : Kind) (call : Call) (v n w : ℕ) → form_of call ≡ form.After → Permits kind call v (reply.Value n) w → after_of kind call v ≡ n
left_after kind call v n w is permitted = elim permitted [
  | inl h ↦ new_value kind call v n is h.0
  | inr s ↦ absurd (not_spurious call v n w s)
]

-- ---- in a history

-- what is asked of an entry on an object
asked_at : (S : Shape) (G : List Entry) (x : Entry) (a : Object) → slice_get S.objects x.object ≡ Some a → IsLawful (cells_of_shape S) G x
    → CallFits a.kind x.call × Permits a.kind x.call (value_of (cells_of_shape S) G x.object) x.reply (left_by a.kind x (value_of (cells_of_shape S) G x.object))
asked_at S G x a at law =
    let v : ℕ = value_of (cells_of_shape S) G x.object in
    subst (λ (z : Option Cell). IsSomeAnd z (λ (cell : Cell). CallFits cell.kind x.call × Permits cell.kind x.call v x.reply (left_by cell.kind x v))) (cell_at S x.object a at) law

lawful_form : (S : Shape) → IsShape S → (G : List Entry) (x : Entry) → x.object < length S.objects → value_of (cells_of_shape S) G x.object < values_of (kind_of S x.object) → IsLawful (cells_of_shape S) G x → HasForm (form_of x.call) (kind_of S x.object) x.reply
lawful_form S ok G x lt small law =
    let a = object_at S.objects x.object lt in
    let v : ℕ = value_of (cells_of_shape S) G x.object in
    let kind : kind_of S x.object ≡ a.0.kind = kind_of-at S x.object a.0 a.1 in
    let here = asked_at S G x a.0 a.1 law in
    subst (λ (k : Kind). HasForm (form_of x.call) k x.reply) (sym kind)
    (permitted_form a.0.kind x.call v x.reply (left_by a.0.kind x v) (subst IsKind kind (ok.kinds x.object)) here.0 (subst (λ (k : Kind). v < values_of k) kind small) here.1)

-- what was seen at the end of a call is legal by the shape
legal_at : (S : Shape) (o : ℕ) (call : Call) (p : PassState) (r : Reply) (q : PassState) → p.shape ≡ S → (m : MakesCall S o call p r q) → IsLegal (cells_of_shape S) ((p.seen ++ m.made.between) ++ entry p.number o call r ∷ [])
legal_at S o call p r q shape m =
    let h = m.made in
    let last = h.kept in
    let same : q.shape ≡ S = ap (λ (s : PassState). s.shape) h.rest ∙ shape in
    let legal : IsLegal (cells_of_shape q.shape) q.seen = last.legal in
    subst (λ (z : Shape × List Entry). IsLegal (cells_of_shape z.0) z.1) (λ i. (same i, h.seen i)) legal

-- a call that was made has a reply of its form
pub made_form : (S : Shape) → IsShape S → (o : ℕ) → o < length S.objects → (call : Call) (p : PassState) (r : Reply) (q : PassState) → p.shape ≡ S → MakesCall S o call p r q → HasForm (form_of call) (kind_of S o) r
made_form S ok o lt call p r q shape m =
    let G : List Entry = p.seen ++ m.made.between in
    let x : Entry = entry p.number o call r in
    let all : IsLegal (cells_of_shape S) (G ++ x ∷ []) = legal_at S o call p r q shape m in
    lawful_form S ok G x lt (value_fits S ok G (Each-append_left _ G (x ∷ []) all) o) (Each-at _ G x [] all)

-- a call that answers the value after it was made: the object has that value at the end of what was seen
pub made_after : (S : Shape) (o : ℕ) → o < length S.objects → (call : Call) (p : PassState) (n : ℕ) (q : PassState) → p.shape ≡ S → form_of call ≡ form.After → MakesCall S o call p (reply.Value n) q → value_of (cells_of_shape S) q.seen o ≡ n
made_after S o lt call p n q shape is m =
    let h = m.made in
    let G : List Entry = p.seen ++ h.between in
    let x : Entry = entry p.number o call (reply.Value n) in
    let a = object_at S.objects o lt in
    let v : ℕ = value_of (cells_of_shape S) G o in
    let law : IsLawful (cells_of_shape S) G x = Each-at _ G x [] (legal_at S o call p (reply.Value n) q shape m) in
    ap (λ (H : List Entry). value_of (cells_of_shape S) H o) h.seen
    ∙ value_of-own (cells_of_shape S) G x o (cell_of a.0) (cell_at S o a.0 a.1) refl
    ∙ left_after a.0.kind call v n (after_of a.0.kind call v) is (asked_at S G x a.0 a.1 law).1
