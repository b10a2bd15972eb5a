-- What one call leaves of a pass, and what an exchange that was done found.
use Rattle.std.proofs.Common.{◌≡◌, ℕ, ◌<◌, ◌==◌, Bool, true, false, if◌then◌else◌, List, [], ◌∷◌, ◌++◌, length, refl, ap, sym, ◌∙◌, subst, Option, Some, slice_get, inl, inr}
use Rattle.std.specs.Prelude.{IsSomeAnd}
use Rattle.std.proofs.lemmas.Bool.{eqb-true}
use Rattle.op_table.specs.declared.kind.Kind.{Kind}
use Rattle.op_table.specs.declared.call.Call.{Call}
use Rattle.op_table.specs.declared.call.Call.TheVariants.{Cas}
use Rattle.op_table.specs.declared.call.Reply.{Reply}
use Rattle.op_table.specs.declared.call.Reply.TheVariants as reply
use Rattle.op_table.specs.Call.{Permits, CallFits}
use Rattle.place_core.specs.declared.entry.Entry.{Entry}
use Rattle.place_core.specs.declared.shape.Shape.{Shape}
use Rattle.place_core.specs.Cells.{Cell, left_by, value_of, IsLawful, IsLegal}
use Rattle.place_core.specs.Shapes.{cells_of_shape}
use Rattle.place_core.proofs.EntryLists.{Each-at}
use Rattle.place_core.proofs.LegalValues.{cell_of, cell_at}
use Rattle.place_core.proofs.ShapeTests.{object_at}
use Rattle.seat_views.specs.Steps.{entry}
use Rattle.seat_views.specs.States.{ArenaState, PassState}
use Rattle.seat_views.specs.Makes.{MakesCall}
use Rattle.seat_views.specs.Trials.{IsReady}

-- after a call the pass is still of the arena, with nothing in flight
pub ready_after : (a : ArenaState) (S : Shape) (o : ℕ) (call : Call) (p : PassState) (r : Reply) (q : PassState) → IsReady a p → MakesCall S o call p r q → IsReady a q
ready_after a S o call p r q ready m = let h = m.made in record {
  of = (ap (λ (s : PassState). s.arena) h.rest ∙ ready.of.0, ap (λ (s : PassState). s.shape) h.rest ∙ ready.of.1);
  rest = ap (λ (s : PassState). s.flight) h.rest;
}

-- ---- what an exchange that was done found

done_at : (e v w : ℕ) (b : Bool) → (v == e) ≡ b → reply.Done w ≡ (if b then reply.Done v else reply.Failed v) → w ≡ e
done_at e v w true same is = let told : w ≡ v = cc in told ∙ eqb-true v e same
done_at e v w false same is = absurd cc

done_permitted : (kind : Kind) (e n v w m : ℕ) → Permits kind (Cas e n) v (reply.Done w) m → w ≡ e
done_permitted kind e n v w m permitted = elim permitted [
  | inl h ↦ done_at e v w (v == e) refl h.0
  | inr s ↦ absurd s
]

-- an exchange that was done found the number that it expects
pub done_is_expected : (S : Shape) (o e n : ℕ) (p : PassState) (w : ℕ) (q : PassState) → o < length S.objects → p.shape ≡ S → MakesCall S o (Cas e n) p (reply.Done w) q → w ≡ e
done_is_expected S o e n p w q lt shape m =
    let h = m.made in
    let last = h.kept in
    let x : Entry = entry p.number o (Cas e n) (reply.Done w) in
    let G : List Entry = p.seen ++ h.between in
    let same : q.shape ≡ S = ap (λ (s : PassState). s.shape) h.rest ∙ shape in
    let told : IsLegal (cells_of_shape q.shape) q.seen = last.legal in
    let legal : IsLegal (cells_of_shape S) (G ++ x ∷ []) = subst (λ (z : Shape × List Entry). IsLegal (cells_of_shape z.0) z.1) (λ i. (same i, h.seen i)) told in
    let law : IsLawful (cells_of_shape S) G x = Each-at _ G x [] legal in
    let a = object_at S.objects o lt in
    let v : ℕ = value_of (cells_of_shape S) G o in
    let asked = subst (λ (z : Option Cell). IsSomeAnd z (λ (cell : Cell). CallFits cell.kind x.call × Permits cell.kind x.call v x.reply (left_by cell.kind x v))) (cell_at S o a.0 a.1) law in
    done_permitted a.0.kind e n v w (left_by a.0.kind x v) asked.1
