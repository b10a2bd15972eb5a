-- The last loads of a run reply the last values.
use Rattle.std.proofs.Common.{◌≡◌, ◌≢◌, ◌∙◌, ⊎_elim, ℕ, ◌+◌, List, [], ◌∷◌, ◌++◌, map, refl, sym, subst, ap, ap₂, append_assoc, append-nil}
use Rattle.std.specs.Prelude.{Option, Some, None, IsSomeAnd, slice_get}
use mathlib.Core.Logic.{dite}
use native.Mathlib.Decide.{ℕ_discrete}
use Rattle.op_table.specs.declared.kind.Kind.{Kind}
use Rattle.op_table.specs.declared.call.Call.{Call}
use Rattle.op_table.specs.declared.call.Call.TheVariants.{Load}
use Rattle.op_table.specs.declared.call.Reply.{Reply}
use Rattle.op_table.specs.declared.call.Reply.TheVariants as reply
use Rattle.op_table.specs.Call.{after_of, answer_of, CallFits, IsSpurious, Permits}
use Rattle.place_core.specs.declared.entry.Entry.{Entry}
use Rattle.place_core.specs.declared.script.Line.{Line}
use Rattle.place_core.specs.Histories.{Each}
use Rattle.place_core.specs.Cells.{Cell, effect_of, left_by, value_of, value_in, entries_by, IsLawful, IsLegal}
use Rattle.place_core.specs.Runs.{made_of, loads_from, replies_by, IsCellRun}
use Rattle.place_core.proofs.CellValues.{value_of-own, value_of-other}

-- the values of these objects after a history, the first of them with number o
abbrev pub values_from : List Cell → List Entry → ℕ → List Cell → List ℕ
values_from cells H o [] = []
values_from cells H o (cell ∷ rest) = value_of cells H o ∷ values_from cells H (o + 1) rest

abbrev pub value_replies : List ℕ → List Reply
value_replies vs = map (λ (v : ℕ). reply.Value v) vs

-- ---- one load

load_reply : (kind : Kind) (v : ℕ) (r : Reply) (w : ℕ) → Permits kind Load v r w → r ≡ reply.Value v
load_reply kind v r w permits = ⊎_elim
    (λ (t : (r ≡ answer_of kind Load v) × (w ≡ after_of kind Load v)). t.0)
    (λ (spurious : IsSpurious Load v r w). absurd spurious)
    permits

effect_same : (r : Reply) (v : ℕ) → effect_of r v v ≡ v
effect_same reply.Unit v = refl
effect_same (reply.Value x) v = refl
effect_same (reply.Bit b) v = refl
effect_same (reply.Done x) v = refl
effect_same (reply.Failed x) v = refl

load_leaves : (kind : Kind) (x : Entry) (v : ℕ) → x.call ≡ Load → left_by kind x v ≡ v
load_leaves kind x v load = ap (λ (c : Call). effect_of x.reply (after_of kind c v) v) load ∙ effect_same x.reply v

-- the entry after the first ones is lawful
at_end : (cells : List Cell) (B : List Entry) (x : Entry) (E : List Entry) → IsLegal cells (B ++ x ∷ E) → IsLawful cells B x
unfolding Each
at_end cells B x E all = all B x E refl

module _ (cells : List Cell) where
  value_of-load : (H : List Entry) (x : Entry) (o : ℕ) → x.call ≡ Load → value_of cells (H ++ x ∷ []) o ≡ value_of cells H o
  value_of-load H x o load = at_object (slice_get cells o) refl
    where
      at_object : (z : Option Cell) → slice_get cells o ≡ z → value_of cells (H ++ x ∷ []) o ≡ value_of cells H o
      at_object None at = ap (λ (c : Option Cell). value_in c (H ++ x ∷ []) o) at ∙ sym (ap (λ (c : Option Cell). value_in c H o) at)
      at_object (Some cell) at = dite (ℕ_discrete x.object o)
          (λ (own : x.object ≡ o). value_of-own cells H x o cell at own ∙ load_leaves cell.kind x (value_of cells H o) load)
          (λ (other : x.object ≢ o). value_of-other cells H x o other)

  -- a lawful load replies the value
  lawful_load : (G : List Entry) (x : Entry) → x.call ≡ Load → IsLawful cells G x → x.reply ≡ reply.Value (value_of cells G x.object)
  lawful_load G x load lawful = at_object (slice_get cells x.object) lawful
    where
      at_object : (z : Option Cell) → IsSomeAnd z (λ (cell : Cell). CallFits cell.kind x.call × Permits cell.kind x.call (value_of cells G x.object) x.reply (left_by cell.kind x (value_of cells G x.object)))
          → x.reply ≡ reply.Value (value_of cells G x.object)
      at_object None there = absurd there
      at_object (Some cell) there =
          load_reply cell.kind (value_of cells G x.object) x.reply _ (subst (λ (c : Call). Permits cell.kind c (value_of cells G x.object) x.reply (left_by cell.kind x (value_of cells G x.object))) load there.1)

  -- ---- loads one after another

  one_more : (B E : List Entry) (x : Entry) → (B ++ x ∷ []) ++ E ≡ B ++ x ∷ E
  one_more B E x = append_assoc B (x ∷ []) E

  loads_leave : (B E : List Entry) (o i : ℕ) (rest : List Cell) → map made_of E ≡ loads_from i rest → value_of cells (B ++ E) o ≡ value_of cells B o
  loads_leave B [] o i rest loads = ap (λ (H : List Entry). value_of cells H o) (append-nil B)
  loads_leave B (x ∷ E) o i [] loads = absurd cc
  loads_leave B (x ∷ E) o i (cell ∷ rest) loads =
      let first : made_of x ≡ (i, Load) = cc (loads) in
      let others : map made_of E ≡ loads_from (i + 1) rest = cc (loads) in
      ap (λ (H : List Entry). value_of cells H o) (sym (one_more B E x))
      ∙ loads_leave (B ++ x ∷ []) E o (i + 1) rest others
      ∙ value_of-load B x o (ap (λ (made : ℕ × Call). made.1) first)

  loads_reply : (B E : List Entry) (i : ℕ) (rest : List Cell) → IsLegal cells (B ++ E) → map made_of E ≡ loads_from i rest
      → map (λ (x : Entry). x.reply) E ≡ value_replies (values_from cells (B ++ E) i rest)
  loads_reply B [] i [] legal loads = refl
  loads_reply B [] i (cell ∷ rest) legal loads = absurd cc
  loads_reply B (x ∷ E) i [] legal loads = absurd cc
  loads_reply B (x ∷ E) i (cell ∷ rest) legal loads =
      let first : made_of x ≡ (i, Load) = cc (loads) in
      let others : map made_of E ≡ loads_from (i + 1) rest = cc (loads) in
      let object : x.object ≡ i = ap (λ (made : ℕ × Call). made.0) first in
      let load : x.call ≡ Load = ap (λ (made : ℕ × Call). made.1) first in
      let head : x.reply ≡ reply.Value (value_of cells (B ++ x ∷ E) i) =
      lawful_load B x load (at_end cells B x E legal)
      ∙ ap (λ (o : ℕ). reply.Value (value_of cells B o)) object
      ∙ ap (λ (v : ℕ). reply.Value v) (sym (loads_leave B (x ∷ E) i i (cell ∷ rest) loads)) in
      let tail = loads_reply (B ++ x ∷ []) E (i + 1) rest (subst (IsLegal cells) (sym (one_more B E x)) legal) others
      ∙ ap (λ (H : List Entry). value_replies (values_from cells H (i + 1) rest)) (one_more B E x) in
      ap₂ (λ (r : Reply) (rs : List Reply). r ∷ rs) head tail

-- of a run, every object's
pub last_replies : (cells : List Cell) (scripts : List (List Line)) (H : List Entry) → IsCellRun cells scripts H → replies_by H 0 ≡ value_replies (values_from cells H 0 cells)
last_replies cells scripts H run =
    loads_reply cells run.ends.before (entries_by H 0) 0 cells (subst (IsLegal cells) run.ends.split run.legal) run.ends.loads
    ∙ ap (λ (G : List Entry). value_replies (values_from cells G 0 cells)) (sym run.ends.split)
