-- What a loop of exchanges keeps, and what it has cost.
use Rattle.std.proofs.Common.{◌≡◌, ◌≢◌, ℕ, ◌+◌, ◌*◌, ◌<◌, ◌≤◌, Bool, true, false, if◌then◌else◌, List, [], ◌∷◌, ◌++◌, length, Option, Some, None, refl, ap, sym, ◌∙◌, subst, arith, append_assoc, length-append, inl, inr}
use Rattle.std.specs.Prelude.{◌⊎◌, ⊤}
use Rattle.std.proofs.lemmas.List.{append-nil}
use Rattle.op_table.specs.declared.call.Call.{Call}
use Rattle.op_table.specs.declared.call.Call.TheVariants.{Load, Cas}
use Rattle.op_table.specs.declared.call.Reply.{Reply}
use Rattle.op_table.specs.declared.call.Reply.TheVariants.{Value, Done, Failed}
use Rattle.place_core.specs.declared.entry.Entry.{Entry}
use Rattle.place_core.specs.declared.places.Place.{Place}
use Rattle.place_core.specs.declared.places.Path.{Path}
use Rattle.place_core.specs.declared.places.Path.TheVariants.{One, Loop}
use Rattle.place_core.specs.declared.places.WordOp.{WordOp}
use Rattle.place_core.specs.declared.places.WordOp.TheVariants as op
use Rattle.place_core.specs.declared.shape.Shape.{Shape}
use Rattle.place_core.specs.Cells.{value_of, entries_by}
use Rattle.place_core.specs.Changes.{changes_from}
use Rattle.place_core.specs.Shapes.{cells_of_shape, kind_of, word_of, is_sole, place_of}
use Rattle.place_core.specs.Operations.{plan_of, path_at, path_by, has_step, op_for}
use Rattle.place_core.specs.Earned.{changes_by_others}
use Rattle.place_core.proofs.ChangeCounts.{changes_append, changes_some}
use Rattle.layout_plan.specs.Laws.{HasLane}
use Rattle.seat_views.specs.declared.view.Item.{Item}
use Rattle.seat_views.specs.Places.{data_of_lane}
use Rattle.seat_views.specs.Steps.{entry}
use Rattle.seat_views.specs.States.{PassState, IsKept}
use Rattle.seat_views.specs.Makes.{MakesCall, MakesCalls}
use Rattle.seat_views.proofs.Making.{none_between, call_is_made, calls_join}
use Rattle.atomic_types.specs.Serving.{Serves, IsOne}
use Rattle.update_table.specs.Updates.{Lost, found_last, exchanges, failures, IsLed, AreLed, value_changes_by_others, AreAllOne, Tried}
use Rattle.update_table.proofs.CallFacts.{call_told, load_told, failed_told, done_told}

-- ---- lists

append_same : {A : Type 0} (xs ys zs : List A) → xs ++ ys ≡ xs ++ zs → ys ≡ zs
append_same [] ys zs e = e
append_same (x ∷ xs) ys zs e = append_same xs ys zs (cc (e))

found_last-more : (v : ℕ) (ls : List Lost) (l : Lost) → found_last v (ls ++ l ∷ []) ≡ l.found
found_last-more v [] l = refl
found_last-more v (a ∷ ls) l = found_last-more a.found ls l

exchanges-more : (o v : ℕ) (ls : List Lost) (l : Lost) → exchanges o v (ls ++ l ∷ []) ≡ exchanges o v ls ++ (o, Cas (found_last v ls) l.new) ∷ []
exchanges-more o v [] l = refl
exchanges-more o v (a ∷ ls) l = ap (λ (cs : List (ℕ × Call)). (o, Cas v a.new) ∷ cs) (exchanges-more o a.found ls l)

failures-more : (ls : List Lost) (l : Lost) → failures (ls ++ l ∷ []) ≡ failures ls ++ Failed l.found ∷ []
failures-more [] l = refl
failures-more (a ∷ ls) l = ap (λ (rs : List Reply). Failed a.found ∷ rs) (failures-more ls l)

AreLed-more : (lo hi : ℕ) (leads : ℕ → Option ℕ → Type 0) (v : ℕ) (ls : List Lost) (l : Lost) → AreLed lo hi leads v ls → IsLed lo hi leads (found_last v ls) l.new → AreLed lo hi leads v (ls ++ l ∷ [])
AreLed-more lo hi leads v [] l all one = (one, tt)
AreLed-more lo hi leads v (a ∷ ls) l all one = (all.0, AreLed-more lo hi leads a.found ls l all.1 one)

-- ---- steps on a lane

one_or_loop : (S : Shape) (done : Option WordOp) → ((d : WordOp) × (path_by S.steps done ≡ One d)) ⊎ (path_by S.steps done ≡ Loop)
one_or_loop S None = inr refl
one_or_loop S (Some d) = let P : Bool → Path = λ (b : Bool). if b then One d else Loop in
    elim (has_step S.steps d) as (λ (b : Bool). ((w : WordOp) × (P b ≡ One w)) ⊎ (P b ≡ Loop)) [ true ↦ inl (d, refl) | false ↦ inr refl ]

lane_plan : (S : Shape) (o : ℕ) (call : Call) → HasLane S o → ((d : WordOp) × (plan_of S o call ≡ One d)) ⊎ (plan_of S o call ≡ Loop)
lane_plan S o call lane =
    subst (λ (p : Option Place). ((d : WordOp) × (path_at S (kind_of S o) call p ≡ One d)) ⊎ (path_at S (kind_of S o) call p ≡ Loop)) (sym lane.lane)
    (one_or_loop S (op_for (kind_of S o) lane.shift lane.width (is_sole S lane.word) call))

load_is_one : (S : Shape) (o : ℕ) → HasLane S o → IsOne S o Load
load_is_one S o lane = (op.Load, ap (λ (p : Option Place). path_at S (kind_of S o) Load p) lane.lane)

-- a call on a lane takes two steps, and one more for each change of the word that others made
few_steps : (S : Shape) (o : ℕ) (call : Call) (p : PassState) (r : Reply) (q : PassState) → HasLane S o → (s : Serves S o call p r q)
    → length s.made.steps ≤ 2 + changes_by_others S (data_of_lane S o) p.number p.seen (s.made.made.between ++ entry p.number o call r ∷ [])
few_steps S o call p r q lane s = elim (lane_plan S o call lane) [
  | inl h ↦ (let one : length s.made.steps ≡ 1 = s.one h in omega arith)
  | inr h ↦ s.loop h
]

-- ---- what was made, and what it has cost

module _ (S : Shape) (o : ℕ) where
  abbrev value : List Entry → ℕ
  value H = value_of (cells_of_shape S) H o

  abbrev changes : ℕ → List Entry → List Entry → ℕ
  changes c before since = value_changes_by_others S o c before since

  abbrev word_changes : ℕ → List Entry → List Entry → ℕ
  word_changes c before since = changes_by_others S (data_of_lane S o) c before since

  -- these calls were made, of which so many were lost exchanges, and so many exchanges at all
  pub record Cost (cs : List (ℕ × Call)) (p : PassState) (rs : List Reply) (q : PassState) (lost tries : ℕ) : Type 0 where
    pub calls : MakesCalls S cs p rs q
    pub paid : lost ≤ changes p.number p.seen calls.made.more
    pub cost : HasLane S o → length calls.steps ≤ 1 + 2 * tries + word_changes p.number p.seen calls.made.more
    pub one : AreAllOne S o → length calls.steps ≡ 1 + tries

  -- what the pass has seen since, and by which steps, of calls and one more
  record Joined (cs ds : List (ℕ × Call)) (p : PassState) (rs qs : List Reply) (z : PassState) (more : List Entry) (steps : List Item) : Type 0 where
    calls : MakesCalls S (cs ++ ds) p (rs ++ qs) z
    more_is : calls.made.more ≡ more
    steps_is : calls.steps ≡ steps

  joined : (cs : List (ℕ × Call)) (call : Call) (p : PassState) (rs : List Reply) (q : PassState) (r : Reply) (z : PassState) → (k : MakesCalls S cs p rs q) → (m : MakesCall S o call q r z)
      → Joined cs ((o, call) ∷ []) p rs (r ∷ []) z (k.made.more ++ (m.made.between ++ entry q.number o call r ∷ [])) (k.steps ++ m.steps)
  joined cs call p rs q r z k m =
      let x : Entry = entry q.number o call r in
      let all : MakesCalls S (cs ++ (o, call) ∷ []) p (rs ++ r ∷ []) z = calls_join S cs ((o, call) ∷ []) p rs q (r ∷ []) z k (call_is_made S o call q r z k.made.kept m) in
      record {
        calls = all;
        more_is = append_same p.seen all.made.more (k.made.more ++ (m.made.between ++ x ∷ []))
            (sym all.made.seen ∙ (m.made.seen ∙ (append_assoc q.seen m.made.between (x ∷ []) ∙ (ap (λ (l : List Entry). l ++ (m.made.between ++ x ∷ [])) k.made.seen ∙ append_assoc p.seen k.made.more (m.made.between ++ x ∷ [])))));
        steps_is = append_same p.trail all.steps (k.steps ++ m.steps)
            (sym (ap (λ (s : PassState). s.trail) all.made.rest) ∙ (ap (λ (s : PassState). s.trail) m.made.rest ∙ (ap (λ (l : List Item). l ++ m.steps) (ap (λ (s : PassState). s.trail) k.made.rest) ∙ append_assoc p.trail k.steps m.steps)));
      }

  -- one exchange more
  cost_more : (cs : List (ℕ × Call)) (p : PassState) (rs : List Reply) (q : PassState) (lost tries e n : ℕ) (r : Reply) (z : PassState) (later : ℕ)
      → (k : Cost cs p rs q lost tries) → (s : Serves S o (Cas e n) q r z) → later ≤ changes p.number p.seen (k.calls.made.more ++ (s.made.made.between ++ entry q.number o (Cas e n) r ∷ []))
      → Cost (cs ++ (o, Cas e n) ∷ []) p (rs ++ r ∷ []) z later (tries + 1)
  cost_more cs p rs q lost tries e n r z later k s paid =
      let m = s.made in
      let x : Entry = entry q.number o (Cas e n) r in
      let span : List Entry = m.made.between ++ x ∷ [] in
      let j = joined cs (Cas e n) p rs q r z k.calls m in
      let number : q.number ≡ p.number = ap (λ (s : PassState). s.number) k.calls.made.rest in
      let length_is : length j.calls.steps ≡ length k.calls.steps + length m.steps = ap length j.steps_is ∙ length-append k.calls.steps m.steps in
      record {
        calls = j.calls;
        paid = subst (λ (l : List Entry). later ≤ changes p.number p.seen l) (sym j.more_is) paid;
        cost = λ lane.
            let was : length k.calls.steps ≤ 1 + 2 * tries + word_changes p.number p.seen k.calls.made.more = k.cost lane in
            let here : length m.steps ≤ 2 + word_changes q.number q.seen span = few_steps S o (Cas e n) q r z lane s in
            let moved : word_changes q.number q.seen span ≡ word_changes p.number (p.seen ++ k.calls.made.more) span = λ i. word_changes (number i) (k.calls.made.seen i) span in
            let total : word_changes p.number p.seen (k.calls.made.more ++ span) ≡ word_changes p.number p.seen k.calls.made.more + word_changes p.number (p.seen ++ k.calls.made.more) span =
            changes_append (λ (y : Entry). y.caller) (λ H. word_of S H (data_of_lane S o)) p.number p.seen k.calls.made.more span in
            let now : length j.calls.steps ≤ 1 + 2 * (tries + 1) + word_changes p.number p.seen (k.calls.made.more ++ span) = omega arith in
            subst (λ (l : List Entry). length j.calls.steps ≤ 1 + 2 * (tries + 1) + word_changes p.number p.seen l) (sym j.more_is) now;
        one = λ all. (let was : length k.calls.steps ≡ 1 + tries = k.one all in let here : length m.steps ≡ 1 = s.one (all.1 e n) in omega arith);
      }

  -- what was paid for stays so
  paid_later : (c : ℕ) (before since more : List Entry) (lost : ℕ) → lost ≤ changes c before since → lost ≤ changes c before (since ++ more)
  paid_later c before since more lost paid =
      let total : changes c before (since ++ more) ≡ changes c before since + changes c (before ++ since) more = changes_append (λ (y : Entry). y.caller) value c before since more in omega arith

  module _ (lo hi : ℕ) (leads : ℕ → Option ℕ → Type 0) where
    -- the loop's invariant: a load and lost exchanges were made, and the number found last is n
    pub record Trying (p : PassState) (n : ℕ) (q : PassState) : Type 0 where
      pub first : ℕ
      pub lost : List Lost
      pub number : found_last first lost ≡ n
      pub led : AreLed lo hi leads first lost
      pub made : Cost ((o, Load) ∷ exchanges o first lost) p (Value first ∷ failures lost) q (length lost) (length lost)
      pub value_is : value q.seen ≡ n

    module _ (there : o < length S.objects) where
      -- the load
      pub begin : (p : PassState) (n : ℕ) (q : PassState) → p.shape ≡ S → IsKept p → Serves S o Load p (Value n) q → Trying p n q
      begin p n q shape kept s =
          let calls : MakesCalls S ((o, Load) ∷ []) p (Value n ∷ []) q = call_is_made S o Load p (Value n) q kept s.made in
          let steps : calls.steps ≡ s.made.steps = append_same p.trail calls.steps s.made.steps (sym (ap (λ (z : PassState). z.trail) calls.made.rest) ∙ ap (λ (z : PassState). z.trail) s.made.made.rest) in
          let count : length calls.steps ≡ length s.made.steps = ap length steps in
          record {
            first = n;
            lost = [];
            number = refl;
            led = tt;
            made = record {
              calls = calls;
              paid = omega arith;
              cost = λ lane. (let one : length s.made.steps ≡ 1 = s.one (load_is_one S o lane) in omega arith);
              one = λ all. (let one : length s.made.steps ≡ 1 = s.one all.0 in omega arith);
            };
            value_is = (load_told S o n _ _ (call_told S o there Load p (Value n) q shape s.made)).1;
          }

      -- a lost exchange, which another's change has paid for
      pub more : (p : PassState) (n : ℕ) (q : PassState) (new m : ℕ) (z : PassState) → p.shape ≡ S → Trying p n q → IsLed lo hi leads n new → Serves S o (Cas n new) q (Failed m) z → Trying p m z
      more p n q new m z shape t led s =
          let k = t.made in
          let calls = k.calls in
          let h = s.made.made in
          let x : Entry = entry q.number o (Cas n new) (Failed m) in
          let number : q.number ≡ p.number = ap (λ (s : PassState). s.number) calls.made.rest in
          let there_shape : q.shape ≡ S = ap (λ (s : PassState). s.shape) calls.made.rest ∙ shape in
          let told : (value (q.seen ++ h.between) ≢ n) × (value (q.seen ++ h.between) ≡ m) × (value z.seen ≡ m) = failed_told S o n new m _ _ (call_told S o there (Cas n new) q (Failed m) z there_shape s.made) in
          let quiet : entries_by h.between q.number ≡ [] = none_between q z h.between x refl calls.made.kept h.kept (ap (λ (s : PassState). s.number) h.rest) (ap (λ (s : PassState). s.mine) h.rest) h.seen in
          let seen : q.seen ≡ p.seen ++ calls.made.more = calls.made.seen in
          let differs : value ((p.seen ++ calls.made.more) ++ h.between) ≢ value (p.seen ++ calls.made.more) =
          λ same. told.0 (ap (λ (l : List Entry). value (l ++ h.between)) seen ∙ (same ∙ (ap value (sym seen) ∙ t.value_is))) in
          let some : 1 ≤ changes p.number (p.seen ++ calls.made.more) h.between =
          changes_some (λ (y : Entry). y.caller) value p.number (p.seen ++ calls.made.more) h.between (ap (entries_by h.between) (sym number) ∙ quiet) differs in
          let front : changes p.number p.seen (calls.made.more ++ h.between) ≡ changes p.number p.seen calls.made.more + changes p.number (p.seen ++ calls.made.more) h.between =
          changes_append (λ (y : Entry). y.caller) value p.number p.seen calls.made.more h.between in
          let was : length t.lost ≤ changes p.number p.seen calls.made.more = k.paid in
          let so_far : length t.lost + 1 ≤ changes p.number p.seen (calls.made.more ++ h.between) = omega arith in
          let paid : length t.lost + 1 ≤ changes p.number p.seen (calls.made.more ++ (h.between ++ x ∷ [])) =
          subst (λ (l : List Entry). length t.lost + 1 ≤ changes p.number p.seen l) (append_assoc calls.made.more h.between (x ∷ [])) (paid_later p.number p.seen (calls.made.more ++ h.between) (x ∷ []) (length t.lost + 1) so_far) in
          let l : Lost = record { new = new; found = m } in
          let cs : List (ℕ × Call) = (o, Load) ∷ exchanges o t.first t.lost in
          let rs : List Reply = Value t.first ∷ failures t.lost in
          let longer : Cost (cs ++ (o, Cas n new) ∷ []) p (rs ++ Failed m ∷ []) z (length t.lost + 1) (length t.lost + 1) = cost_more cs p rs q (length t.lost) (length t.lost) n new (Failed m) z (length t.lost + 1) k s paid in
          let calls_are : cs ++ (o, Cas n new) ∷ [] ≡ (o, Load) ∷ exchanges o t.first (t.lost ++ l ∷ []) =
          ap (λ (w : ℕ). cs ++ (o, Cas w new) ∷ []) (sym t.number) ∙ ap (λ (ds : List (ℕ × Call)). (o, Load) ∷ ds) (sym (exchanges-more o t.first t.lost l)) in
          let replies_are : rs ++ Failed m ∷ [] ≡ Value t.first ∷ failures (t.lost ++ l ∷ []) = ap (λ (ds : List Reply). Value t.first ∷ ds) (sym (failures-more t.lost l)) in
          let count : length t.lost + 1 ≡ length (t.lost ++ l ∷ []) = sym (length-append t.lost (l ∷ [])) in
          record {
            first = t.first;
            lost = t.lost ++ l ∷ [];
            number = found_last-more t.first t.lost l;
            led = AreLed-more lo hi leads t.first t.lost l t.led (subst (λ (w : ℕ). IsLed lo hi leads w new) (sym t.number) led);
            made = subst (λ (z' : List (ℕ × Call) × List Reply × ℕ). Cost z'.0 p z'.1 z z'.2 z'.2) (λ i. (calls_are i, replies_are i, count i)) longer;
            value_is = told.2;
          }

      -- the end, with these last calls
      told_as : (p : PassState) (n : ℕ) (z : PassState) (first : ℕ) (lost : List Lost) (last : List (ℕ × Call)) (told : List Reply) → found_last first lost ≡ n → AreLed lo hi leads first lost
          → Cost (((o, Load) ∷ exchanges o first lost) ++ last) p ((Value first ∷ failures lost) ++ told) z (length lost) (length lost + length last) → Tried S o lo hi leads p n last told z
      told_as p n z first lost last told number led k = record { first = first; lost = lost; number = number; led = led; calls = k.calls; paid = k.paid; cost = k.cost; one = k.one }

      -- no exchange more
      pub stop : (p : PassState) (n : ℕ) (q : PassState) → Trying p n q → Tried S o lo hi leads p n [] [] q
      stop p n q t =
          let cs : List (ℕ × Call) = (o, Load) ∷ exchanges o t.first t.lost in
          let rs : List Reply = Value t.first ∷ failures t.lost in
          let none : length t.lost ≡ length t.lost + 0 = omega arith in
          told_as p n q t.first t.lost [] [] t.number t.led
          (subst (λ (z : List (ℕ × Call) × List Reply × ℕ). Cost z.0 p z.1 q (length t.lost) z.2) (λ i. (sym (append-nil cs) i, sym (append-nil rs) i, none i)) t.made)

      -- the exchange was done
      pub done : (p : PassState) (n : ℕ) (q : PassState) (new m : ℕ) (z : PassState) → p.shape ≡ S → Trying p n q → Serves S o (Cas n new) q (Done m) z → Tried S o lo hi leads p n ((o, Cas n new) ∷ []) (Done n ∷ []) z
      done p n q new m z shape t s =
          let k = t.made in
          let calls = k.calls in
          let there_shape : q.shape ≡ S = ap (λ (s : PassState). s.shape) calls.made.rest ∙ shape in
          let same : m ≡ n = done_told S o n new m _ _ (call_told S o there (Cas n new) q (Done m) z there_shape s.made) in
          let right : Serves S o (Cas n new) q (Done n) z = subst (λ (w : ℕ). Serves S o (Cas n new) q (Done w) z) same s in
          let cs : List (ℕ × Call) = (o, Load) ∷ exchanges o t.first t.lost in
          let rs : List Reply = Value t.first ∷ failures t.lost in
          told_as p n z t.first t.lost ((o, Cas n new) ∷ []) (Done n ∷ []) t.number t.led
          (cost_more cs p rs q (length t.lost) (length t.lost) n new (Done n) z (length t.lost) k right (paid_later p.number p.seen calls.made.more (right.made.made.between ++ entry q.number o (Cas n new) (Done n) ∷ []) (length t.lost) k.paid))
