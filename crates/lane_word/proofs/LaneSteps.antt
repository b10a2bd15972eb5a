-- Calls on a lane in one step, and weak exchanges in two.
use Rattle.std.proofs.Common.{◌≡◌, ◌≢◌, ℕ, ◌+◌, ◌/◌, ◌%◌, ◌^◌, ◌==◌, ◌≤◌, Bool, true, false, if◌then◌else◌, List, [], ◌∷◌, ◌++◌, length, refl, ap, sym, ◌∙◌, subst, arith, append_assoc, eq-eqb, ne_eqb}
use Rattle.std.specs.Prelude.{not, ◌||◌}
use mathlib.Core.Logic.{dite}
use native.Mathlib.Decide.{ℕ_discrete}
use Rattle.op_table.specs.declared.call.Call.{Call}
use Rattle.op_table.specs.declared.call.Call.TheVariants.{CasWeak}
use Rattle.op_table.specs.declared.call.Reply.{Reply}
use Rattle.op_table.specs.declared.call.Reply.TheVariants as reply
use Rattle.op_table.specs.Call.{after_of, answer_of}
use Rattle.place_core.specs.declared.entry.Entry.{Entry}
use Rattle.place_core.specs.declared.places.Path.TheVariants.{One, Loop}
use Rattle.place_core.specs.declared.places.WordOp.{WordOp}
use Rattle.place_core.specs.declared.shape.Shape.{Shape}
use Rattle.place_core.specs.Cells.{entries_by, IsLawful, IsLegal}
use Rattle.place_core.specs.Shapes.{kind_of, cells_of_shape, word_of, IsShape}
use Rattle.place_core.specs.Operations.{plan_of}
use Rattle.place_core.specs.Earned.{changes_by_others, IsEarned}
use Rattle.place_core.proofs.EntryLists.{Each-append_left}
use Rattle.place_core.proofs.ChangeCounts.{changes_append, lost_counts}
use Rattle.place_core.proofs.Earning.{two_words_earn, table_reply_is_not_spurious}
use Rattle.layout_plan.specs.Laws.{HasLane}
use Rattle.seat_views.specs.declared.view.StepKind.TheVariants as kind
use Rattle.seat_views.specs.declared.view.Item.{Item}
use Rattle.seat_views.specs.Places.{data_in, shift_in, width_in, data_of_lane, word_of_lane, lane_at}
use Rattle.seat_views.specs.Steps.{entry, item, op_item}
use Rattle.seat_views.specs.States.{PassState, AppendsAt}
use Rattle.seat_views.specs.Items.{number_at}
use Rattle.seat_views.specs.Paths.{IsPath}
use Rattle.seat_views.specs.Tries.{OpMade, LookMade, LookSaw, TryMade}
use Rattle.seat_views.specs.Makes.{MakesEntry}
use Rattle.seat_views.proofs.PathPieces.{look_settles_is, look_goes_on, look_ends, try_ends}
use Rattle.lane_word.specs.LaneCalls.{MakesAtOnce, MakesWeakly, MakesNone}
use Rattle.lane_word.proofs.LanePieces.{numbered_self, one_path, loop_path, no_load, none_before_entry, none_first, none_then_entry}

-- ---- one step

-- a step made the call, and its reply is the table's
pub made_at_once : (S : Shape) (o : ℕ) (call : Call) (p : PassState) (r : Reply) (i : Item) (word n v : ℕ) (q : PassState) → r ≡ answer_of (kind_of S o) call v → AppendsAt p (entry p.number o call r) i word n q
    → IsPath S o call r (i ∷ []) → MakesAtOnce S o call p r q
made_at_once S o call p r i word n v q told h path = record {
  made = record {
    steps = i ∷ [];
    made = record { between = h.between; seen = h.seen; rest = h.rest; kept = h.kept };
    path = path;
    earned = λ bad. absurd (table_reply_is_not_spurious S (entry p.number o call r) v told bad);
  };
  one = refl;
}

-- the operation that the plan names
pub op_at_once : (S : Shape) (o : ℕ) (call : Call) (done : WordOp) (p : PassState) (r : Reply) (q : PassState) → HasLane S o → plan_of S o call ≡ One done → OpMade S o call done p r q → MakesAtOnce S o call p r q
op_at_once S o call done p r q lane plan made =
    made_at_once S o call p r (op_item (word_of_lane S o) done made.found) (data_of_lane S o) made.found (lane_at S o made.found) q made.reply made.appends (one_path S o call r lane done made.found plan)

-- a look that settles the call
pub look_at_once : (S : Shape) (o : ℕ) (call : Call) (p : PassState) (r : Reply) (q : PassState) → HasLane S o → plan_of S o call ≡ Loop → LookMade S o call p r q → MakesAtOnce S o call p r q
look_at_once S o call p r q lane plan made =
    let n : ℕ = made.found in let i : Item = item (word_of_lane S o) kind.Look n in
    made_at_once S o call p r i (data_of_lane S o) n (lane_at S o n) q made.reply made.appends
    (loop_path S o call r lane (i ∷ []) plan (look_ends (lane_at S o) (word_of_lane S o) call i [] (numbered_self kind.Look (word_of_lane S o) n) (sym (look_settles_is call (lane_at S o n) (no_load S o call lane plan)) ∙ made.decided)))

-- ---- a weak exchange in one step

-- the table's reply is no failure with the value that is expected
never : (S : Shape) (o e x c v : ℕ) (r : Reply) → r ≡ answer_of (kind_of S o) (CasWeak e x) v → r ≢ reply.Failed e
never S o e x c v r told failed = table_reply_is_not_spurious S (entry c o (CasWeak e x) r) v told (e, x, refl, failed)

weakly : (S : Shape) (o e x v : ℕ) (p : PassState) (r : Reply) (q : PassState) → r ≡ answer_of (kind_of S o) (CasWeak e x) v → MakesAtOnce S o (CasWeak e x) p r q → MakesWeakly S o e x p r q
weakly S o e x v p r q told m =
    let made = m.made in let one : length made.steps ≡ 1 = m.one in
    let sure : r ≢ reply.Failed e = never S o e x p.number v r told in record {
      made = made;
      few = omega arith;
      one = λ _ _. (one, sure);
      spurious = (λ failed. absurd (sure failed), λ t. let two : length made.steps ≡ 2 = ap (λ (l : List Item). length l) t.split in absurd (omega arith));
      paid = λ failed. absurd (sure failed);
    }

pub weak_by_op : (S : Shape) (o e x : ℕ) (done : WordOp) (p : PassState) (r : Reply) (q : PassState) → HasLane S o → plan_of S o (CasWeak e x) ≡ One done → OpMade S o (CasWeak e x) done p r q → MakesWeakly S o e x p r q
weak_by_op S o e x done p r q lane plan made = weakly S o e x (lane_at S o made.found) p r q made.reply (op_at_once S o (CasWeak e x) done p r q lane plan made)

pub weak_by_look : (S : Shape) (o e x : ℕ) (p : PassState) (r : Reply) (q : PassState) → HasLane S o → plan_of S o (CasWeak e x) ≡ Loop → LookMade S o (CasWeak e x) p r q → MakesWeakly S o e x p r q
weak_by_look S o e x p r q lane plan made = weakly S o e x (lane_at S o made.found) p r q made.reply (look_at_once S o (CasWeak e x) p r q lane plan made)

-- ---- a weak exchange in two steps

expected : (v e : ℕ) → not (v == e) ≡ false → v ≡ e
expected v e h = dite (ℕ_discrete v e) (λ is. is) (λ ne. let bad : true ≡ false = sym (ap not (ne_eqb v e ne)) ∙ h in absurd cc)

-- what the try stores, where the look found the value expected
pub weak_new : (S : Shape) (o e x n : ℕ) (p q : PassState) → LookSaw S o (CasWeak e x) p n q → x ≡ after_of (kind_of S o) (CasWeak e x) (lane_at S o n)
weak_new S o e x n p q saw = sym (ap (λ (b : Bool). if b then x else lane_at S o n) (eq-eqb (lane_at S o n) e (expected (lane_at S o n) e saw.undecided)))

module _ (S : Shape) (ok : IsShape S) (o e x n : ℕ) (p q z : PassState) (r : Reply) (lane : HasLane S o) (shape : p.shape ≡ S) (plan : plan_of S o (CasWeak e x) ≡ Loop)
    (saw : LookSaw S o (CasWeak e x) p n q) (made : TryMade S o (CasWeak e x) n q r z) where
  abbrev word : ℕ
  word = data_of_lane S o

  abbrev m : ℕ
  m = made.seen

  abbrev look : Item
  look = item (word_of_lane S o) kind.Look n

  abbrev try : Item
  try = item (word_of_lane S o) kind.Try made.seen

  at_look : lane_at S o n ≡ e
  at_look = expected (lane_at S o n) e saw.undecided

  steps_none : MakesNone p (look ∷ []) q
  steps_none = none_first p q look word n saw.looked

  joined : (m : MakesEntry o (CasWeak e x) p r (look ∷ try ∷ []) z) × (m.between ≡ steps_none.between ++ made.appends.between)
  joined = none_then_entry o (CasWeak e x) r p q z (look ∷ []) try word made.seen steps_none made.appends

  both : MakesEntry o (CasWeak e x) p r (look ∷ try ∷ []) z
  both = joined.0

  -- what was seen before the entry
  seen_is : (p.seen ++ steps_none.between) ++ made.appends.between ≡ p.seen ++ both.between
  unfolding both
  seen_is = append_assoc p.seen steps_none.between made.appends.between ∙ ap (λ (l : List Entry). p.seen ++ l) (sym joined.1)

  between_is : steps_none.between ++ made.appends.between ≡ both.between
  unfolding both
  between_is = sym joined.1

  steps_path : IsPath S o (CasWeak e x) r (look ∷ try ∷ [])
  steps_path = loop_path S o (CasWeak e x) r lane (look ∷ try ∷ []) plan
      (look_goes_on (lane_at S o) (word_of_lane S o) (CasWeak e x) look (try ∷ []) (numbered_self kind.Look (word_of_lane S o) n) saw.undecided
      ∙ try_ends (lane_at S o) (word_of_lane S o) (CasWeak e x) try [] n (numbered_self kind.Try (word_of_lane S o) made.seen) (ends (made.seen == n)))
    where
      ends : (won : Bool) → (won || true) ≡ true
      ends true = refl
      ends false = refl

  -- where the words are one the exchange is done
  won_sure : made.seen ≡ n → r ≢ reply.Failed e
  won_sure same = never S o e x p.number (lane_at S o made.seen) r (made.won same)

  -- it failed with the value that it expects only where the words differ
  missed : r ≡ reply.Failed e → made.seen ≢ n
  missed failed same = won_sure same failed

  at_try : r ≡ reply.Failed e → lane_at S o made.seen ≡ e
  at_try failed = let both_say : reply.Failed (lane_at S o made.seen) ≡ reply.Failed e = sym (made.failed (missed failed)).1 ∙ failed in cc

  shape_there : q.shape ≡ S
  shape_there = ap (λ (s : PassState). s.shape) steps_none.rest ∙ shape

  shape_end : z.shape ≡ S
  shape_end = ap (λ (s : PassState). s.shape) both.rest ∙ shape

  word_looked : n ≡ word_of S (p.seen ++ steps_none.between) word
  word_looked = let looked = saw.looked in sym looked.word_is ∙ (λ k. word_of (shape_there k) (steps_none.seen k) word)

  word_tried : made.seen ≡ word_of S ((p.seen ++ steps_none.between) ++ made.appends.between) word
  word_tried = let h = made.appends in sym h.word_is ∙ (λ k. word_of (shape_there k) (steps_none.seen k ++ h.between) word)

  number : q.number ≡ p.number
  number = ap (λ (s : PassState). s.number) steps_none.rest

  quiet : entries_by made.appends.between p.number ≡ []
  quiet = ap (entries_by made.appends.between) (sym number) ∙ none_before_entry q z (entry q.number o (CasWeak e x) r) try word made.seen refl steps_none.kept made.appends

  legal : IsLegal (cells_of_shape S) ((p.seen ++ steps_none.between) ++ made.appends.between)
  legal = let kept = both.kept in
      Each-append_left (IsLawful (cells_of_shape S)) ((p.seen ++ steps_none.between) ++ made.appends.between) (entry p.number o (CasWeak e x) r ∷ [])
      (subst (IsLegal (cells_of_shape S)) (both.seen ∙ ap (λ (l : List Entry). l ++ entry p.number o (CasWeak e x) r ∷ []) (sym seen_is))
      (subst (λ (s : Shape). IsLegal (cells_of_shape s) z.seen) shape_end kept.legal))

  earned : r ≡ reply.Failed e → IsEarned S (p.seen ++ both.between) (entry p.number o (CasWeak e x) r)
  earned failed =
      let lane_of : (k : ℕ) → lane_at S o k ≡ k / 2 ^ lane.shift % 2 ^ lane.width = λ k. λ t. k / 2 ^ shift_in (lane.lane t) % 2 ^ width_in (lane.lane t) in
      let here : word ≡ lane.word = ap data_in lane.lane in
      subst (λ (G : List Entry). IsEarned S G (entry p.number o (CasWeak e x) r)) seen_is
      (two_words_earn S ok (p.seen ++ steps_none.between) made.appends.between (entry p.number o (CasWeak e x) r) legal lane.word lane.shift lane.width n made.seen lane.lane quiet
      (word_looked ∙ ap (word_of S (p.seen ++ steps_none.between)) here) (word_tried ∙ ap (word_of S ((p.seen ++ steps_none.between) ++ made.appends.between)) here)
      (λ same. missed failed (sym same)) (sym (lane_of n) ∙ (at_look ∙ (sym (at_try failed) ∙ lane_of made.seen))))

  changed : r ≡ reply.Failed e → 1 ≤ changes_by_others S word p.number p.seen (both.between ++ entry p.number o (CasWeak e x) r ∷ [])
  changed failed =
      let one : 0 + 1 ≤ changes_by_others S word p.number p.seen both.between =
      subst (λ (l : List Entry). 0 + 1 ≤ changes_by_others S word p.number p.seen l) between_is (lost_counts (λ (y : Entry). y.caller) (λ H. word_of S H word) p.number 0 p.seen steps_none.between made.appends.between (omega arith) quiet
      (λ same. missed failed (word_tried ∙ (same ∙ sym word_looked)))) in
      let sum = changes_append (λ (y : Entry). y.caller) (λ H. word_of S H word) p.number p.seen both.between (entry p.number o (CasWeak e x) r ∷ []) in
      omega arith

  pub weak_by_try : MakesWeakly S o e x p r z
  weak_by_try = record {
    made = record {
      steps = look ∷ try ∷ [];
      made = both;
      path = steps_path;
      earned = λ bad. (let same : CasWeak e x ≡ CasWeak bad.0 bad.1 = bad.2 in let is : bad.0 ≡ e = cc in earned (bad.3 ∙ ap (λ (v : ℕ). reply.Failed v) is));
    };
    few = omega arith;
    one = λ done at_once. (let clash : One done ≡ Loop = sym at_once ∙ plan in absurd cc);
    spurious = (
      λ failed. record { looked = n; tried = made.seen; split = refl; differ = missed failed; look_value = at_look; try_value = at_try failed },
      λ t.
          let looked : n ≡ t.looked = ap (number_at 0) t.split in
          let tried : made.seen ≡ t.tried = ap (number_at 1) t.split in
          let other : made.seen ≢ n = λ same. t.differ (sym tried ∙ (same ∙ looked)) in
          (made.failed other).1 ∙ ap (λ (v : ℕ). reply.Failed v) (ap (lane_at S o) tried ∙ t.try_value),
    );
    paid = changed;
  }
