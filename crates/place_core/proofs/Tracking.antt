-- A list of numbers that holds the values after a history.
use Rattle.std.proofs.Common.{◌≡◌, ◌≢◌, inl, inr, ◌⊎◌, true, false, eqb, ℕ, zero, suc, ◌<◌, List, [], ◌∷◌, ◌++◌, length, map, get_or, refl, sym, subst, ap, ◌∙◌, arith, append_assoc}
use Rattle.std.specs.Prelude.{Some, None, slice_get, IsSomeAnd}
use Rattle.std.specs.declared.option.Option.{Option}
use Rattle.std.specs.List.{AllByRecursion}
use Rattle.std.proofs.lemmas.Bool.Decides.{eqb_tells}
use Rattle.std.proofs.lemmas.List.{append-nil, get_or-set_same, get_or-set_other}
use Rattle.std.proofs.lemmas.Option.{slice_get_within}
use Rattle.std.proofs.Math.ListN.{length-set}
use Rattle.op_table.specs.declared.call.Call.{Call}
use Rattle.op_table.specs.Call.{after_of, answer_of}
use Rattle.place_core.specs.declared.entry.Entry.{Entry}
use Rattle.place_core.specs.Histories.{Each}
use Rattle.place_core.specs.Cells.{Cell, effect_of, left_by, value_of, HasTableReply}
use Rattle.place_core.specs.Runs.{made_of}
use Rattle.place_core.proofs.PlainHistory.{kind_at, answer_at, next_values, values_after, entries_of, starts_of}
use Rattle.place_core.proofs.EntryLists.{Each-at}
use Rattle.place_core.proofs.CellValues.{effect_of-answer_of, value_of-start, value_of-own, value_of-other}

pub record Tracks (cells : List Cell) (values : List ℕ) (G : List Entry) : Type 0 where
  pub len : length values ≡ length cells
  pub each : (o : ℕ) (cell : Cell) → slice_get cells o ≡ Some cell → get_or values o 0 ≡ value_of cells G o

pub kind_at-there : (cells : List Cell) (o : ℕ) (cell : Cell) → slice_get cells o ≡ Some cell → kind_at cells o ≡ cell.kind
kind_at-there [] o cell at = absurd (cc)
kind_at-there (x ∷ cells) zero cell at = let same : x ≡ cell = cc in ap (λ (c : Cell). c.kind) same
kind_at-there (x ∷ cells) (suc o) cell at = kind_at-there cells o cell at

-- ---- what is there

pub record There {X : Type 0} (o : Option X) (P : X → Type 0) : Type 0 where
  pub value : X
  pub at : o ≡ Some value
  pub fact : P value

pub there : {X : Type 0} (o : Option X) (P : X → Type 0) → IsSomeAnd o P → There o P
there None P some = absurd some
there (Some x) P some = record { value = x; at = refl; fact = some }

-- ---- the start, and one call more

pub length-starts_of : (cells : List Cell) → length (starts_of cells) ≡ length cells
length-starts_of [] = refl
length-starts_of (c ∷ cells) = ap suc (length-starts_of cells)

starts_of-at : (cells : List Cell) (o : ℕ) (cell : Cell) → slice_get cells o ≡ Some cell → get_or (map (λ c. c.start) cells) o 0 ≡ cell.start
starts_of-at [] o cell at = absurd (cc)
starts_of-at (x ∷ cells) zero cell at = let same : x ≡ cell = cc in ap (λ (c : Cell). c.start) same
starts_of-at (x ∷ cells) (suc o) cell at = starts_of-at cells o cell at

pub tracks_start : (cells : List Cell) → Tracks cells (starts_of cells) []
tracks_start cells = record { len = length-starts_of cells; each = λ o cell at. starts_of-at cells o cell at ∙ sym (value_of-start cells o cell at) }

-- the entry of a caller that calls now
abbrev pub made : List Cell → List ℕ → ℕ → ℕ × Call → Entry
made cells values c asked = record { caller = c; object = asked.0; call = asked.1; reply = answer_at cells values asked }

answered : (cells : List Cell) (values : List ℕ) (G : List Entry) (asked : ℕ × Call) (cell : Cell) → Tracks cells values G → slice_get cells asked.0 ≡ Some cell → answer_at cells values asked ≡ answer_of cell.kind asked.1 (value_of cells G asked.0)
answered cells values G asked cell tracks at =
    ap (λ kind. answer_of kind asked.1 (get_or values asked.0 0)) (kind_at-there cells asked.0 cell at) ∙ ap (answer_of cell.kind asked.1) (tracks.each asked.0 cell at)

followed : (cells : List Cell) (values : List ℕ) (G : List Entry) (asked : ℕ × Call) (cell : Cell) → Tracks cells values G → slice_get cells asked.0 ≡ Some cell → after_of (kind_at cells asked.0) asked.1 (get_or values asked.0 0) ≡ after_of cell.kind asked.1 (value_of cells G asked.0)
followed cells values G asked cell tracks at =
    ap (λ kind. after_of kind asked.1 (get_or values asked.0 0)) (kind_at-there cells asked.0 cell at) ∙ ap (after_of cell.kind asked.1) (tracks.each asked.0 cell at)

-- the entry leaves the table's value
left : (cells : List Cell) (values : List ℕ) (G : List Entry) (c : ℕ) (asked : ℕ × Call) (cell : Cell) → Tracks cells values G → slice_get cells asked.0 ≡ Some cell → left_by cell.kind (made cells values c asked) (value_of cells G asked.0) ≡ after_of cell.kind asked.1 (value_of cells G asked.0)
left cells values G c asked cell tracks at = let v = value_of cells G asked.0 in
    ap (λ reply. effect_of reply (after_of cell.kind asked.1 v) v) (answered cells values G asked cell tracks at) ∙ effect_of-answer_of cell.kind asked.1 v

pub tracks_next : (cells : List Cell) (values : List ℕ) (G : List Entry) (c : ℕ) (asked : ℕ × Call) → Tracks cells values G → Tracks cells (next_values cells values asked) (G ++ made cells values c asked ∷ [])
tracks_next cells values G c asked tracks = record {
  len = length-set values asked.0 new ∙ tracks.len;
  each = λ o cell at. value_here o cell at (eqb_tells asked.0 o);
}
  where
    new : ℕ
    new = after_of (kind_at cells asked.0) asked.1 (get_or values asked.0 0)

    value_here : (o : ℕ) (cell : Cell) → slice_get cells o ≡ Some cell → ((eqb asked.0 o ≡ true) × (asked.0 ≡ o)) ⊎ ((eqb asked.0 o ≡ false) × (asked.0 ≢ o)) → get_or (next_values cells values asked) o 0 ≡ value_of cells (G ++ made cells values c asked ∷ []) o
    value_here o cell at (inl hit) =
        let here : slice_get cells asked.0 ≡ Some cell = ap (slice_get cells) hit.1 ∙ at in
        let below : asked.0 < length values = omega (arith, slice_get_within cells asked.0 cell here, tracks.len) in
        let own = value_of-own cells G (made cells values c asked) asked.0 cell here refl ∙ left cells values G c asked cell tracks here in
        let both = get_or-set_same values asked.0 new 0 below ∙ followed cells values G asked cell tracks here ∙ sym own in
        subst (λ i. get_or (next_values cells values asked) i 0 ≡ value_of cells (G ++ made cells values c asked ∷ []) i) hit.1 both
    value_here o cell at (inr miss) =
        get_or-set_other values asked.0 o new 0 (λ same. miss.1 (sym same)) ∙ tracks.each o cell at ∙ sym (value_of-other cells G (made cells values c asked) o miss.1)

-- ---- entries with the table's replies are determined by their calls

determined_entry : (cells : List Cell) (values : List ℕ) (G : List Entry) (x : Entry) (c : ℕ) → Tracks cells values G → HasTableReply cells G x → x.caller ≡ c → x ≡ made cells values c (made_of x)
determined_entry cells values G x c tracks has own =
    let cell = there (slice_get cells x.object) (λ cell. x.reply ≡ answer_of cell.kind x.call (value_of cells G x.object)) has in
    let reply : x.reply ≡ answer_at cells values (made_of x) = cell.fact ∙ sym (answered cells values G (made_of x) cell.value tracks cell.at) in
    let whole : x ≡ record { caller = x.caller; object = x.object; call = x.call; reply = x.reply } = refl in
    whole
    ∙ ap (λ r. record { caller = x.caller; object = x.object; call = x.call; reply = r }) reply
    ∙ ap (λ d. record { caller = d; object = x.object; call = x.call; reply = answer_at cells values (made_of x) }) own

pub record Determined (cells : List Cell) (values : List ℕ) (G H : List Entry) (c : ℕ) : Type 0 where
  pub same : H ≡ entries_of cells values c (map made_of H)
  pub tracks : Tracks cells (values_after cells values (map made_of H)) (G ++ H)

pub determined : (cells : List Cell) (values : List ℕ) (G H : List Entry) (c : ℕ) → Tracks cells values G → Each (HasTableReply cells) (G ++ H) → AllByRecursion (λ x. x.caller ≡ c) H → Determined cells values G H c
determined cells values G [] c tracks each all = record { same = refl; tracks = subst (Tracks cells values) (sym (append-nil G)) tracks }
determined cells values G (x ∷ H) c tracks each all =
    let is = determined_entry cells values G x c tracks (Each-at (HasTableReply cells) G x H each) all.0 in
    let next = next_values cells values (made_of x) in
    let after : Tracks cells next (G ++ x ∷ []) = subst (λ y. Tracks cells next (G ++ y ∷ [])) (sym is) (tracks_next cells values G c (made_of x) tracks) in
    let joined = append_assoc G (x ∷ []) H in
    let more = determined cells next (G ++ x ∷ []) H c after (subst (Each (HasTableReply cells)) (sym joined) each) all.1 in
    record {
      same = ap (λ y. y ∷ H) is ∙ ap (λ l. made cells values c (made_of x) ∷ l) more.same;
      tracks = subst (Tracks cells (values_after cells next (map made_of H))) joined more.tracks;
    }
