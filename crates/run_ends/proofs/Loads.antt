-- The last loads: what they reply, what they leave, and that they may come after any legal history.
use Rattle.std.proofs.Common.{◌≡◌, ◌≢◌, ◌∙◌, ⊎_elim, inl, ℕ, suc, ◌+◌, List, [], ◌∷◌, ◌++◌, map, refl, sym, subst, ap, ap₂, append_assoc, append-nil, arith}
use Rattle.std.specs.Prelude.{Option, Some, None, IsSomeAnd, slice_get}
use Rattle.std.specs.List.{AllByRecursion}
use mathlib.Core.Logic.{dite}
use native.Mathlib.Decide.{ℕ_discrete}
use Rattle.op_table.specs.declared.kind.Kind.{Kind}
use Rattle.op_table.specs.declared.call.Call.{Call}
use Rattle.op_table.specs.declared.call.Call.TheVariants.{Load, CasWeak}
use Rattle.op_table.specs.declared.call.Reply.{Reply}
use Rattle.op_table.specs.declared.call.Reply.TheVariants as reply
use Rattle.op_table.specs.Call.{after_of, answer_of, CallFits, IsSpurious, Permits}
use Rattle.place_core.specs.declared.entry.Entry.{Entry}
use Rattle.place_core.specs.declared.script.Line.{Line}
use Rattle.place_core.specs.declared.shape.Shape.{Shape}
use Rattle.place_core.specs.Cells.{Cell, effect_of, left_by, value_of, value_in, entries_by, IsLawful, IsLegal}
use Rattle.place_core.specs.Earned.{IsEarned, IsSpuriousEntry, AllEarned}
use Rattle.place_core.specs.Runs.{made_of, loads_from, replies_by, IsCellRun}
use Rattle.place_core.proofs.CellValues.{value_of-own, value_of-other}
use Rattle.place_core.proofs.EntryLists.{Each-more, Each-at}
use Rattle.run_ends.specs.Laws.{last_from}

-- ---- one load

load_reply : (kind : Kind) (v : ℕ) (r : Reply) (w : ℕ) → Permits kind Load v r w → r ≡ reply.Value v
load_reply kind v r w permits = ⊎_elim
    (λ (t : (r ≡ answer_of kind Load v) × (w ≡ after_of kind Load v)). t.0)
    (λ (spurious : IsSpurious Load v r w). absurd spurious)
    permits

effect_same : (r : Reply) (v : ℕ) → effect_of r v v ≡ v
effect_same reply.Unit v = refl
effect_same (reply.Value x) v = refl
effect_same (reply.Bit b) v = refl
effect_same (reply.Done x) v = refl
effect_same (reply.Failed x) v = refl

load_leaves : (kind : Kind) (x : Entry) (v : ℕ) → x.call ≡ Load → left_by kind x v ≡ v
load_leaves kind x v load = ap (λ (c : Call). effect_of x.reply (after_of kind c v) v) load ∙ effect_same x.reply v

not_weak : (call : Call) (e n : ℕ) → call ≡ Load → call ≡ CasWeak e n → ⊥
not_weak call e n load weak = cc

module _ (cells : List Cell) where
  value_of-load : (H : List Entry) (x : Entry) (o : ℕ) → x.call ≡ Load → value_of cells (H ++ x ∷ []) o ≡ value_of cells H o
  value_of-load H x o load = at_object (slice_get cells o) refl
    where
      at_object : (z : Option Cell) → slice_get cells o ≡ z → value_of cells (H ++ x ∷ []) o ≡ value_of cells H o
      at_object None at = ap (λ (c : Option Cell). value_in c (H ++ x ∷ []) o) at ∙ sym (ap (λ (c : Option Cell). value_in c H o) at)
      at_object (Some cell) at = dite (ℕ_discrete x.object o)
          (λ (own : x.object ≡ o). value_of-own cells H x o cell at own ∙ load_leaves cell.kind x (value_of cells H o) load)
          (λ (other : x.object ≢ o). value_of-other cells H x o other)

  -- a lawful load replies the value
  lawful_load : (G : List Entry) (x : Entry) → x.call ≡ Load → IsLawful cells G x → x.reply ≡ reply.Value (value_of cells G x.object)
  lawful_load G x load lawful = at_object (slice_get cells x.object) lawful
    where
      at_object : (z : Option Cell) → IsSomeAnd z (λ (cell : Cell). CallFits cell.kind x.call × Permits cell.kind x.call (value_of cells G x.object) x.reply (left_by cell.kind x (value_of cells G x.object)))
          → x.reply ≡ reply.Value (value_of cells G x.object)
      at_object None there = absurd there
      at_object (Some cell) there =
          load_reply cell.kind (value_of cells G x.object) x.reply _ (subst (λ (c : Call). Permits cell.kind c (value_of cells G x.object) x.reply (left_by cell.kind x (value_of cells G x.object))) load there.1)

  -- ---- loads one after another

  one_more : (B E : List Entry) (x : Entry) → (B ++ x ∷ []) ++ E ≡ B ++ x ∷ E
  one_more B E x = append_assoc B (x ∷ []) E

  pub loads_leave : (B E : List Entry) (o i : ℕ) (rest : List Cell) → map made_of E ≡ loads_from i rest → value_of cells (B ++ E) o ≡ value_of cells B o
  loads_leave B [] o i rest loads = ap (λ (H : List Entry). value_of cells H o) (append-nil B)
  loads_leave B (x ∷ E) o i [] loads = absurd cc
  loads_leave B (x ∷ E) o i (cell ∷ rest) loads =
      let first : made_of x ≡ (i, Load) = cc (loads) in
      let others : map made_of E ≡ loads_from (i + 1) rest = cc (loads) in
      ap (λ (H : List Entry). value_of cells H o) (sym (one_more B E x))
      ∙ loads_leave (B ++ x ∷ []) E o (i + 1) rest others
      ∙ value_of-load B x o (ap (λ (made : ℕ × Call). made.1) first)

  loads_reply : (B E : List Entry) (i : ℕ) (rest : List Cell) → IsLegal cells (B ++ E) → map made_of E ≡ loads_from i rest
      → map (λ (x : Entry). x.reply) E ≡ last_from cells (B ++ E) i rest
  loads_reply B [] i [] legal loads = refl
  loads_reply B [] i (cell ∷ rest) legal loads = absurd cc
  loads_reply B (x ∷ E) i [] legal loads = absurd cc
  loads_reply B (x ∷ E) i (cell ∷ rest) legal loads =
      let first : made_of x ≡ (i, Load) = cc (loads) in
      let others : map made_of E ≡ loads_from (i + 1) rest = cc (loads) in
      let object : x.object ≡ i = ap (λ (made : ℕ × Call). made.0) first in
      let load : x.call ≡ Load = ap (λ (made : ℕ × Call). made.1) first in
      let head : x.reply ≡ reply.Value (value_of cells (B ++ x ∷ E) i) =
      lawful_load B x load (Each-at (IsLawful cells) B x E legal)
      ∙ ap (λ (o : ℕ). reply.Value (value_of cells B o)) object
      ∙ ap (λ (v : ℕ). reply.Value v) (sym (loads_leave B (x ∷ E) i i (cell ∷ rest) loads)) in
      let tail = loads_reply (B ++ x ∷ []) E (i + 1) rest (subst (IsLegal cells) (sym (one_more B E x)) legal) others
      ∙ ap (λ (H : List Entry). last_from cells H (i + 1) rest) (one_more B E x) in
      ap₂ (λ (r : Reply) (rs : List Reply). r ∷ rs) head tail

  -- of a run, every object's
  pub last_replies : (scripts : List (List Line)) (H : List Entry) → IsCellRun cells scripts H → replies_by H 0 ≡ last_from cells H 0 cells
  last_replies scripts H run =
      loads_reply run.ends.before (entries_by H 0) 0 cells (subst (IsLegal cells) run.ends.split run.legal) run.ends.loads
      ∙ ap (λ (G : List Entry). last_from cells G 0 cells) (sym run.ends.split)

-- ---- loads after a history

-- entries of caller 0 that load these objects may come after the history
pub record Loads (S : Shape) (cells : List Cell) (G : List Entry) (i : ℕ) (rest : List Cell) : Type 0 where
  pub entries : List Entry
  pub legal : IsLegal cells (G ++ entries)
  pub earned : AllEarned S (G ++ entries)
  pub loads : map made_of entries ≡ loads_from i rest
  pub own : AllByRecursion (λ x. x.caller ≡ 0) entries

module _ (S : Shape) (cells : List Cell) where
  load_lawful : (G : List Entry) (i : ℕ) (cell : Cell) → slice_get cells i ≡ Some cell → IsLawful cells G (record { caller = 0; object = i; call = Load; reply = reply.Value (value_of cells G i) })
  load_lawful G i cell at =
      let v : ℕ = value_of cells G i in
      let x : Entry = record { caller = 0; object = i; call = Load; reply = reply.Value v } in
      subst (λ (o : Option Cell). IsSomeAnd o (λ (c : Cell). CallFits c.kind Load × Permits c.kind Load v (reply.Value v) (left_by c.kind x v))) (sym at) (tt, inl (refl, refl))

  pub with_loads : (G : List Entry) (i : ℕ) (rest : List Cell) → ((k : ℕ) (cell : Cell) → slice_get rest k ≡ Some cell → slice_get cells (i + k) ≡ Some cell) → IsLegal cells G → AllEarned S G → Loads S cells G i rest
  with_loads G i [] there legal earned = record {
    entries = [];
    legal = subst (IsLegal cells) (sym (append-nil G)) legal;
    earned = subst (AllEarned S) (sym (append-nil G)) earned;
    loads = refl;
    own = tt;
  }
  with_loads G i (cell ∷ rest) there legal earned =
      let x : Entry = record { caller = 0; object = i; call = Load; reply = reply.Value (value_of cells G i) } in
      let at : slice_get cells i ≡ Some cell = ap (slice_get cells) (omega arith) ∙ there 0 cell refl in
      let legal' : IsLegal cells (G ++ x ∷ []) = (Each-more (IsLawful cells) G x).1 (legal, load_lawful G i cell at) in
      let never : IsSpuriousEntry x → IsEarned S G x = λ h. absurd (not_weak Load h.0 h.1 refl h.2) in
      let earned' : AllEarned S (G ++ x ∷ []) = (Each-more (λ H y. IsSpuriousEntry y → IsEarned S H y) G x).1 (earned, never) in
      let more = with_loads (G ++ x ∷ []) (i + 1) rest (λ k c e. ap (slice_get cells) (omega arith) ∙ there (suc k) c e) legal' earned' in
      record {
        entries = x ∷ more.entries;
        legal = subst (IsLegal cells) (append_assoc G (x ∷ []) more.entries) more.legal;
        earned = subst (AllEarned S) (append_assoc G (x ∷ []) more.entries) more.earned;
        loads = ap (λ (l : List (ℕ × Call)). (i, Load) ∷ l) more.loads;
        own = (refl, more.own);
      }
