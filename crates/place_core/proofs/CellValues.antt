-- Values of objects over cells, after one more entry.
use Rattle.std.proofs.Common.{◌≡◌, ◌≢◌, Bool, true, false, cond, eqb, ℕ, List, [], ◌∷◌, ◌++◌, refl, sym, ap, ◌∙◌}
use Rattle.std.specs.Prelude.{Some, None, slice_get}
use Rattle.std.specs.declared.option.Option.{Option}
use Rattle.op_table.specs.declared.kind.Kind.{Kind}
use Rattle.op_table.specs.declared.call.Call.{Call}
use Rattle.op_table.specs.declared.call.Call.TheVariants.{Cas, CasWeak, Add, Sub, And, Or, Xor, Not, Neg}
use Rattle.op_table.specs.declared.call.Reply.TheVariants as reply
use Rattle.op_table.specs.Call.{after_of, answer_of}
use Rattle.place_core.specs.declared.entry.Entry.{Entry}
use Rattle.place_core.specs.Cells.{Cell, effect_of, left_by, value_in, value_of}
use Rattle.place_core.proofs.EntryLists.{value_from-none, value_from-own, value_from-other}

-- ---- what a call with the table's reply leaves

effect_of-exchange : (v n e m : ℕ) (b : Bool) → eqb v e ≡ b → m ≡ cond (eqb v e) n v → effect_of (cond b (reply.Done v) (reply.Failed v)) m v ≡ m
effect_of-exchange v n e m true is row = refl
effect_of-exchange v n e m false is row = sym (row ∙ ap (λ b. cond b n v) is)

effect_of-quiet : (v m : ℕ) (q : Bool) → effect_of (cond q reply.Unit (reply.Value v)) m v ≡ m
effect_of-quiet v m true = refl
effect_of-quiet v m false = refl

-- where the reply is the table's, so is what is left
pub effect_of-answer_of : (kind : Kind) (call : Call) (v : ℕ) → effect_of (answer_of kind call v) (after_of kind call v) v ≡ after_of kind call v
effect_of-answer_of kind (Cas e n) v = effect_of-exchange v n e (after_of kind (Cas e n) v) (eqb v e) refl refl
effect_of-answer_of kind (CasWeak e n) v = effect_of-exchange v n e (after_of kind (CasWeak e n) v) (eqb v e) refl refl
effect_of-answer_of kind (Add a q) v = effect_of-quiet v (after_of kind (Add a q) v) q
effect_of-answer_of kind (Sub a q) v = effect_of-quiet v (after_of kind (Sub a q) v) q
effect_of-answer_of kind (And a q) v = effect_of-quiet v (after_of kind (And a q) v) q
effect_of-answer_of kind (Or a q) v = effect_of-quiet v (after_of kind (Or a q) v) q
effect_of-answer_of kind (Xor a q) v = effect_of-quiet v (after_of kind (Xor a q) v) q
effect_of-answer_of kind (Not q) v = effect_of-quiet v (after_of kind (Not q) v) q
effect_of-answer_of kind (Neg q) v = effect_of-quiet v (after_of kind (Neg q) v) q
effect_of-answer_of kind _ v = refl

-- ---- values

pub value_of-there : (cells : List Cell) (H : List Entry) (o : ℕ) (cell : Cell) → slice_get cells o ≡ Some cell → value_of cells H o ≡ value_in (Some cell) H o
value_of-there cells H o cell at = ap (λ (c : Option Cell). value_in c H o) at

pub value_of-start : (cells : List Cell) (o : ℕ) (cell : Cell) → slice_get cells o ≡ Some cell → value_of cells [] o ≡ cell.start
value_of-start cells o cell at = value_of-there cells [] o cell at ∙ value_from-none (λ (x : Entry). x.object) (left_by cell.kind) o cell.start

pub value_of-own : (cells : List Cell) (H : List Entry) (x : Entry) (o : ℕ) (cell : Cell) → slice_get cells o ≡ Some cell → x.object ≡ o → value_of cells (H ++ x ∷ []) o ≡ left_by cell.kind x (value_of cells H o)
value_of-own cells H x o cell at own =
    value_of-there cells (H ++ x ∷ []) o cell at
    ∙ value_from-own (λ (y : Entry). y.object) (left_by cell.kind) o cell.start H x own
    ∙ ap (left_by cell.kind x) (sym (value_of-there cells H o cell at))

value_in-other : (c : Option Cell) (H : List Entry) (x : Entry) (o : ℕ) → x.object ≢ o → value_in c (H ++ x ∷ []) o ≡ value_in c H o
value_in-other None H x o other = refl
value_in-other (Some cell) H x o other = value_from-other (λ (y : Entry). y.object) (left_by cell.kind) o cell.start H x other

pub value_of-other : (cells : List Cell) (H : List Entry) (x : Entry) (o : ℕ) → x.object ≢ o → value_of cells (H ++ x ∷ []) o ≡ value_of cells H o
value_of-other cells H x o other = value_in-other (slice_get cells o) H x o other
