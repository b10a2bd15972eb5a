-- What a load and an exchange tell of the value.
use Rattle.std.proofs.Common.{◌≡◌, ◌≢◌, ℕ, ◌<◌, ◌==◌, Bool, true, false, if◌then◌else◌, List, [], ◌∷◌, ◌++◌, length, refl, ap, sym, ◌∙◌, subst, Option, Some, slice_get, eq-eqb, ne_eqb}
use Rattle.std.specs.Prelude.{IsSomeAnd, ◌⊎◌}
use Rattle.std.proofs.Common.{inl, inr}
use mathlib.Core.Logic.{dite}
use native.Mathlib.Decide.{ℕ_discrete}
use Rattle.op_table.specs.declared.kind.Kind.{Kind}
use Rattle.op_table.specs.declared.call.Call.{Call}
use Rattle.op_table.specs.declared.call.Call.TheVariants.{Load, Cas}
use Rattle.op_table.specs.declared.call.Reply.{Reply}
use Rattle.op_table.specs.declared.call.Reply.TheVariants as reply
use Rattle.op_table.specs.Call.{after_of, exchange_reply, Permits, CallFits}
use Rattle.place_core.specs.declared.entry.Entry.{Entry}
use Rattle.place_core.specs.declared.places.Object.{Object}
use Rattle.place_core.specs.declared.shape.Shape.{Shape}
use Rattle.place_core.specs.Cells.{Cell, effect_of, left_by, value_of, IsLawful, IsLegal}
use Rattle.place_core.specs.Shapes.{kind_of, cells_of_shape}
use Rattle.place_core.proofs.CellValues.{value_of-own}
use Rattle.place_core.proofs.EntryLists.{Each-at}
use Rattle.place_core.proofs.LegalValues.{cell_of, cell_at}
use Rattle.place_core.proofs.ShapeFacts.{kind_of-at}
use Rattle.place_core.proofs.ShapeTests.{object_at}
use Rattle.seat_views.specs.Steps.{entry}
use Rattle.seat_views.specs.States.{PassState}
use Rattle.seat_views.specs.Makes.{MakesCall}

-- a call whose number before it was v told r, and left w
pub record Told (S : Shape) (o : ℕ) (call : Call) (r : Reply) (v w : ℕ) : Type 0 where
  pub permitted : Permits (kind_of S o) call v r w
  pub left : w ≡ effect_of r (after_of (kind_of S o) call v) v

-- an entry that may come after a history
pub told_by : (S : Shape) (G : List Entry) (x : Entry) → x.object < length S.objects → IsLegal (cells_of_shape S) (G ++ x ∷ [])
    → Told S x.object x.call x.reply (value_of (cells_of_shape S) G x.object) (value_of (cells_of_shape S) (G ++ x ∷ []) x.object)
told_by S G x lt legal =
    let a = object_at S.objects x.object lt in
    let v : ℕ = value_of (cells_of_shape S) G x.object in
    let law : IsLawful (cells_of_shape S) G x = Each-at _ G x [] legal in
    let here : CallFits a.0.kind x.call × Permits a.0.kind x.call v x.reply (left_by a.0.kind x v) =
    subst (λ (z : Option Cell). IsSomeAnd z (λ (cell : Cell). CallFits cell.kind x.call × Permits cell.kind x.call v x.reply (left_by cell.kind x v))) (cell_at S x.object a.0 a.1) law in
    let now : value_of (cells_of_shape S) (G ++ x ∷ []) x.object ≡ left_by a.0.kind x v = value_of-own (cells_of_shape S) G x x.object (cell_of a.0) (cell_at S x.object a.0 a.1) refl in
    let kind : kind_of S x.object ≡ a.0.kind = kind_of-at S x.object a.0 a.1 in
    subst (λ (k : Kind). (permitted : Permits k x.call v x.reply (value_of (cells_of_shape S) (G ++ x ∷ []) x.object)) × (value_of (cells_of_shape S) (G ++ x ∷ []) x.object ≡ effect_of x.reply (after_of k x.call v) v) → Told S x.object x.call x.reply v (value_of (cells_of_shape S) (G ++ x ∷ []) x.object)) kind
    (λ h. record { permitted = h.0; left = h.1 })
    (subst (λ (w : ℕ). Permits a.0.kind x.call v x.reply w) (sym now) here.1, now)

-- what was seen at the end of a call is legal by the shape
legal_at : (S : Shape) (o : ℕ) (call : Call) (p : PassState) (r : Reply) (q : PassState) → p.shape ≡ S → (m : MakesCall S o call p r q) → IsLegal (cells_of_shape S) ((p.seen ++ m.made.between) ++ entry p.number o call r ∷ [])
legal_at S o call p r q shape m =
    let h = m.made in
    let last = h.kept in
    let same : q.shape ≡ S = ap (λ (s : PassState). s.shape) h.rest ∙ shape in
    let legal : IsLegal (cells_of_shape q.shape) q.seen = last.legal in
    subst (λ (z : Shape × List Entry). IsLegal (cells_of_shape z.0) z.1) (λ i. (same i, h.seen i)) legal

-- a call of a pass
pub call_told : (S : Shape) (o : ℕ) → o < length S.objects → (call : Call) (p : PassState) (r : Reply) (q : PassState) → p.shape ≡ S → (m : MakesCall S o call p r q)
    → Told S o call r (value_of (cells_of_shape S) (p.seen ++ m.made.between) o) (value_of (cells_of_shape S) q.seen o)
call_told S o lt call p r q shape m =
    let G : List Entry = p.seen ++ m.made.between in
    let x : Entry = entry p.number o call r in
    subst (λ (H : List Entry). Told S o call r (value_of (cells_of_shape S) G o) (value_of (cells_of_shape S) H o)) (sym m.made.seen) (told_by S G x lt (legal_at S o call p r q shape m))

-- a load told the value, and left it
pub load_told : (S : Shape) (o n v w : ℕ) → Told S o Load (reply.Value n) v w → (v ≡ n) × (w ≡ n)
load_told S o n v w t =
    let same : reply.Value n ≡ reply.Value v = elim t.permitted [ inl h ↦ h.0 | inr h ↦ absurd h ] in
    let is : v ≡ n = sym (cc same) in
    (is, t.left ∙ is)

pub exchanged_as : (e v : ℕ) (r : Reply) → r ≡ exchange_reply e v → ((v ≡ e) × (r ≡ reply.Done v)) ⊎ ((v ≢ e) × (r ≡ reply.Failed v))
exchanged_as e v r is = dite (ℕ_discrete v e)
    (λ same. inl (same, is ∙ ap (λ (b : Bool). if b then reply.Done v else reply.Failed v) (eq-eqb v e same)))
    (λ other. inr (other, is ∙ ap (λ (b : Bool). if b then reply.Done v else reply.Failed v) (ne_eqb v e other)))

cas_as : (S : Shape) (o e n v w : ℕ) (r : Reply) → Told S o (Cas e n) r v w → ((v ≡ e) × (r ≡ reply.Done v)) ⊎ ((v ≢ e) × (r ≡ reply.Failed v))
cas_as S o e n v w r t = exchanged_as e v r (elim t.permitted [ inl h ↦ h.0 | inr h ↦ absurd h ])

-- an exchange that failed told the value, which isn't the expected one, and left it
pub failed_told : (S : Shape) (o e n m v w : ℕ) → Told S o (Cas e n) (reply.Failed m) v w → (v ≢ e) × (v ≡ m) × (w ≡ m)
failed_told S o e n m v w t = elim (cas_as S o e n v w (reply.Failed m) t) [
  | inl h ↦ (let told : reply.Failed m ≡ reply.Done v = h.1 in absurd cc)
  | inr h ↦ (let told : reply.Failed m ≡ reply.Failed v = h.1 in let is : v ≡ m = sym (cc told) in (h.0, is, t.left ∙ is))
]

-- an exchange that was done told the expected value
pub done_told : (S : Shape) (o e n m v w : ℕ) → Told S o (Cas e n) (reply.Done m) v w → m ≡ e
done_told S o e n m v w t = elim (cas_as S o e n v w (reply.Done m) t) [
  | inl h ↦ (let told : reply.Done m ≡ reply.Done v = h.1 in let is : m ≡ v = cc told in is ∙ h.0)
  | inr h ↦ (let told : reply.Done m ≡ reply.Failed v = h.1 in absurd cc)
]
