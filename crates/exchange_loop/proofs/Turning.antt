-- A loop of tries: what it keeps, and what it has cost.
use Rattle.std.proofs.Common.{◌≡◌, ℕ, ◌+◌, ◌≤◌, Bool, true, false, List, [], ◌∷◌, ◌++◌, length, refl, ap, sym, ◌∙◌, subst, arith, append_assoc, length-append, eq-eqb, ne_eqb}
use Rattle.std.specs.Prelude.{◌||◌}
use mathlib.Core.Logic.{dite}
use native.Mathlib.Decide.{ℕ_discrete}
use Rattle.op_table.specs.declared.call.Call.{Call}
use Rattle.op_table.specs.declared.call.Reply.{Reply}
use Rattle.op_table.specs.CallTests.{is_weak}
use Rattle.place_core.specs.declared.entry.Entry.{Entry}
use Rattle.place_core.specs.declared.places.Path.TheVariants.{Loop}
use Rattle.place_core.specs.declared.shape.Shape.{Shape}
use Rattle.place_core.specs.Cells.{entries_by}
use Rattle.place_core.specs.Shapes.{word_of}
use Rattle.place_core.specs.Operations.{plan_of}
use Rattle.place_core.specs.Earned.{changes_by_others}
use Rattle.place_core.proofs.ChangeCounts.{changes_append, lost_counts}
use Rattle.layout_plan.specs.Laws.{HasLane}
use Rattle.seat_views.specs.declared.view.StepKind.TheVariants as kind
use Rattle.seat_views.specs.declared.view.Item.{Item}
use Rattle.seat_views.specs.Deciding.{lost_try_settles}
use Rattle.seat_views.specs.Places.{data_of_lane, word_of_lane, lane_at}
use Rattle.seat_views.specs.Steps.{entry, item}
use Rattle.seat_views.specs.States.{PassState}
use Rattle.seat_views.specs.Paths.{is_last_try, eat_loop}
use Rattle.seat_views.specs.Tries.{LookMade, LookSaw, TryMade, TrySaw}
use Rattle.seat_views.specs.Makes.{MakesEntry}
use Rattle.seat_views.proofs.PathPieces.{look_settles_is, look_goes_on, try_goes_on, try_ends}
use Rattle.lane_word.proofs.LanePieces.{numbered_self, loop_path, no_load, none_before_step, none_first, none_more, none_then_entry}
use Rattle.lane_word.proofs.LaneSteps.{look_at_once}
use Rattle.exchange_loop.specs.Turns.{Turns, Turning}

module _ (S : Shape) (o : ℕ) (call : Call) (lane : HasLane S o) (plan : plan_of S o call ≡ Loop) where
  abbrev word : ℕ
  word = data_of_lane S o

  abbrev changes : ℕ → List Entry → List Entry → ℕ
  changes c before since = changes_by_others S (data_of_lane S o) c before since

  changes_sum : (c : ℕ) (before xs ys : List Entry) → changes c before (xs ++ ys) ≡ changes c before xs + changes c (before ++ xs) ys
  changes_sum c before xs ys = changes_append (λ (y : Entry). y.caller) (λ H. word_of S H word) c before xs ys

  -- the look settles the call
  pub look_done : (p : PassState) (r : Reply) (q : PassState) → LookMade S o call p r q → Turns S o call p r q
  look_done p r q made =
      let m = look_at_once S o call p r q lane plan made in let call_made = m.made in let one : length call_made.steps ≡ 1 = m.one in
      record { made = call_made; cost = omega arith }

  -- the look leaves it open
  pub look_open : (p : PassState) (n : ℕ) (q : PassState) → p.shape ≡ S → LookSaw S o call p n q → Turning S o call p n q
  look_open p n q shape saw =
      let i : Item = item (word_of_lane S o) kind.Look n in let h = saw.looked in
      let there : q.shape ≡ S = ap (λ (s : PassState). s.shape) h.rest ∙ shape in record {
        steps = i ∷ [];
        none = none_first p q i word n h;
        word_is = (λ k. word_of (sym there k) q.seen word) ∙ h.word_is;
        goes_on = λ U. look_goes_on (lane_at S o) (word_of_lane S o) call i U (numbered_self kind.Look (word_of_lane S o) n) (sym (look_settles_is call (lane_at S o n) (no_load S o call lane plan)) ∙ saw.undecided);
        lost = 0;
        count = refl;
        paid = omega arith;
      }

  -- a lost try, which another's change has paid for
  pub try_open : (p : PassState) (n : ℕ) (q : PassState) (m : ℕ) (z : PassState) → p.shape ≡ S → Turning S o call p n q → TrySaw S o call n q m z → Turning S o call p m z
  try_open p n q m z shape t saw =
      let i : Item = item (word_of_lane S o) kind.Try m in let h = saw.looked in let none = t.none in
      let number : q.number ≡ p.number = ap (λ (s : PassState). s.number) none.rest in
      let there : z.shape ≡ S = ap (λ (s : PassState). s.shape) h.rest ∙ (ap (λ (s : PassState). s.shape) none.rest ∙ shape) in
      let found : word_of S z.seen word ≡ m = (λ k. word_of (sym there k) z.seen word) ∙ h.word_is in
      let quiet : entries_by h.between p.number ≡ [] = ap (entries_by h.between) (sym number) ∙ none_before_step q z i word m none.kept h in
      let was : word_of S (p.seen ++ none.between) word ≡ n = ap (λ (l : List Entry). word_of S l word) (sym none.seen) ∙ t.word_is in
      let is : word_of S ((p.seen ++ none.between) ++ h.between) word ≡ m = ap (λ (l : List Entry). word_of S (l ++ h.between) word) (sym none.seen) ∙ (ap (λ (l : List Entry). word_of S l word) (sym h.seen) ∙ found) in
      let more : t.lost + 1 ≤ changes p.number p.seen (none.between ++ h.between) =
      lost_counts (λ (y : Entry). y.caller) (λ H. word_of S H word) p.number t.lost p.seen none.between h.between t.paid quiet (λ same. saw.other (sym is ∙ (same ∙ was))) in
      let longer_none = none_more p q z t.steps i word m none h in
      let goes : is_last_try (lane_at S o) call n m ≡ false = λ k. ne_eqb m n saw.other k || saw.undecided k in
      let longer : length (t.steps ++ i ∷ []) ≡ length t.steps + 1 = length-append t.steps (i ∷ []) in
      let so_far : length t.steps ≡ 1 + t.lost = t.count in
      record {
        steps = t.steps ++ i ∷ [];
        none = longer_none.0;
        word_is = found;
        goes_on = λ U. ap (eat_loop (lane_at S o) (word_of_lane S o) call) (append_assoc t.steps (i ∷ []) U)
            ∙ (t.goes_on (i ∷ U) ∙ try_goes_on (lane_at S o) (word_of_lane S o) call i U n (numbered_self kind.Try (word_of_lane S o) m) goes);
        lost = t.lost + 1;
        count = omega arith;
        paid = subst (λ (l : List Entry). t.lost + 1 ≤ changes p.number p.seen l) (sym longer_none.1) more;
      }

  -- a try settles the call
  pub try_done : (p : PassState) (n : ℕ) (q : PassState) (r : Reply) (z : PassState) → is_weak call ≡ false → Turning S o call p n q → TryMade S o call n q r z → Turns S o call p r z
  try_done p n q r z strong t made =
      let m : ℕ = made.seen in let i : Item = item (word_of_lane S o) kind.Try m in let h = made.appends in let none = t.none in
      let x : Entry = entry p.number o call r in
      let joined = none_then_entry o call r p q z t.steps i word m none h in
      let one : MakesEntry o call p r (t.steps ++ i ∷ []) z = joined.0 in
      let split : one.between ≡ none.between ++ h.between = joined.1 in
      let ends : is_last_try (lane_at S o) call n m ≡ true = dite (ℕ_discrete m n)
      (λ won. ap (λ (b : Bool). b || lost_try_settles call (lane_at S o m)) (eq-eqb m n won))
      (λ other. λ k. ne_eqb m n other k || (made.failed other).0 k) in
      let longer : length (t.steps ++ i ∷ []) ≡ length t.steps + 1 = length-append t.steps (i ∷ []) in
      let so_far : length t.steps ≡ 1 + t.lost = t.count in
      let paid : t.lost ≤ changes p.number p.seen none.between = t.paid in
      let all : changes p.number p.seen (one.between ++ x ∷ []) ≡ changes p.number p.seen one.between + changes p.number (p.seen ++ one.between) (x ∷ []) = changes_sum p.number p.seen one.between (x ∷ []) in
      let front : changes p.number p.seen one.between ≡ changes p.number p.seen none.between + changes p.number (p.seen ++ none.between) h.between =
      ap (changes p.number p.seen) split ∙ changes_sum p.number p.seen none.between h.between in
      record {
        made = record {
          steps = t.steps ++ i ∷ [];
          made = one;
          path = loop_path S o call r lane (t.steps ++ i ∷ []) plan (t.goes_on (i ∷ []) ∙ try_ends (lane_at S o) (word_of_lane S o) call i [] n (numbered_self kind.Try (word_of_lane S o) m) ends);
          earned = λ bad. (let clash : true ≡ false = sym (ap is_weak bad.2) ∙ strong in absurd cc);
        };
        cost = omega arith;
      }
