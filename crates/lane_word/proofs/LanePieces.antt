-- What the calls on a lane are put together from.
use Rattle.std.proofs.Common.{◌≡◌, ℕ, ◌/◌, ◌%◌, ◌^◌, true, false, if◌then◌else◌, List, [], ◌∷◌, ◌++◌, Option, Some, None, refl, ap, sym, ◌∙◌, subst, append_assoc, eq-eqb}
use Rattle.std.specs.Prelude.{◌&&◌}
use Rattle.op_table.specs.declared.call.Call.{Call}
use Rattle.op_table.specs.declared.call.Call.TheVariants.{Load}
use Rattle.op_table.specs.declared.call.Reply.{Reply}
use Rattle.op_table.specs.CallTests.{is_load}
use Rattle.place_core.specs.declared.entry.Entry.{Entry}
use Rattle.place_core.specs.declared.places.Place.{Place}
use Rattle.place_core.specs.declared.places.Path.{Path}
use Rattle.place_core.specs.declared.places.Path.TheVariants.{One, Loop}
use Rattle.place_core.specs.declared.places.WordOp.{WordOp}
use Rattle.place_core.specs.declared.places.WordOp.TheVariants as op
use Rattle.place_core.specs.declared.shape.Shape.{Shape}
use Rattle.place_core.specs.Cells.{entries_by}
use Rattle.place_core.specs.Shapes.{place_of, kind_of, data_word}
use Rattle.place_core.specs.Operations.{plan_of, path_at}
use Rattle.layout_plan.specs.Laws.{HasLane}
use Rattle.seat_views.specs.declared.view.StepKind.{StepKind}
use Rattle.seat_views.specs.declared.view.Item.{Item}
use Rattle.seat_views.specs.declared.view.Flight.TheVariants.{Idle}
use Rattle.seat_views.specs.Places.{data_in, shift_in, width_in, word_of_lane, lane_at}
use Rattle.seat_views.specs.Steps.{entry, item, op_item}
use Rattle.seat_views.specs.States.{PassState, IsKept, AppendsAt, Looked}
use Rattle.seat_views.specs.Items.{kind_code, is_numbered}
use Rattle.seat_views.specs.Paths.{eat_one_step, eat_turns, eat_loop, eat_by, IsPath}
use Rattle.seat_views.specs.Makes.{MakesEntry}
use Rattle.seat_views.proofs.Making.{none_made, none_between, others_make_all}
use Rattle.lane_word.specs.LaneCalls.{MakesNone}
use Rattle.lane_word.specs.LaneLaws.{NoneIsMade}

-- ---- paths

-- a step is of its own kind, on its own word
pub numbered_self : (k : StepKind) (w n : ℕ) → is_numbered k w (item w k n) ≡ true
numbered_self k w n = λ i. (eq-eqb (kind_code k) (kind_code k) refl i && eq-eqb w w refl i) && true

module _ (S : Shape) (o : ℕ) (call : Call) (r : Reply) (lane : HasLane S o) where
  -- where the plan is one step, that step is the path
  pub one_path : (done : WordOp) (n : ℕ) → plan_of S o call ≡ One done → IsPath S o call r (op_item (word_of_lane S o) done n ∷ [])
  one_path done n plan =
      let i : Item = op_item (word_of_lane S o) done n in
      let w : ℕ = data_word lane.word in
      ap (λ (P : Path). eat_by S P (place_of S o) call r (i ∷ [])) plan
      ∙ (ap (λ (p : Option Place). eat_one_step p (i ∷ [])) lane.lane
      ∙ (λ t. if true && eq-eqb (word_of_lane S o) w (ap (λ (p : Option Place). data_word (data_in p)) lane.lane) t then Some [] else None))

  -- where it is a loop, a look and tries are the path
  pub loop_path : (T : List Item) → plan_of S o call ≡ Loop → eat_loop (lane_at S o) (word_of_lane S o) call T ≡ Some [] → IsPath S o call r T
  loop_path T plan eaten =
      let turns : eat_turns (place_of S o) call T ≡ eat_loop (lane_at S o) (word_of_lane S o) call T =
      subst (λ (p : Option Place). eat_turns p call T ≡ eat_loop (λ n. n / 2 ^ shift_in p % 2 ^ width_in p) (data_word (data_in p)) call T) (sym lane.lane) refl in
      ap (λ (P : Path). eat_by S P (place_of S o) call r T) plan ∙ (turns ∙ eaten)

-- a load's plan is one step
pub load_plan : (S : Shape) (o : ℕ) → HasLane S o → plan_of S o Load ≡ One op.Load
load_plan S o lane = ap (λ (p : Option Place). path_at S (kind_of S o) Load p) lane.lane

-- so no load is made by a loop
pub no_load : (S : Shape) (o : ℕ) (call : Call) → HasLane S o → plan_of S o call ≡ Loop → is_load call ≡ false
no_load S o Load lane plan = let both : One op.Load ≡ Loop = sym (load_plan S o lane) ∙ plan in absurd cc
no_load S o _ lane plan = refl

-- ---- steps one after another

-- between two steps of a pass without an entry lies no entry of its own
pub none_before_step : (q z : PassState) (i : Item) (word n : ℕ) → IsKept q → (h : Looked q i word n z) → entries_by h.between q.number ≡ []
none_before_step q z i word n kept h =
    let last = h.kept in
    let number : z.number ≡ q.number = ap (λ (s : PassState). s.number) h.rest in
    let own : entries_by z.seen z.number ≡ z.mine = last.own in
    none_made q.seen h.between q.mine q.number kept.own
    (ap (λ (l : List Entry). entries_by l q.number) (sym h.seen) ∙ (ap (entries_by z.seen) (sym number) ∙ (own ∙ ap (λ (s : PassState). s.mine) h.rest)))

-- nor before the entry of its next step
pub none_before_entry : (q z : PassState) (x : Entry) (i : Item) (word n : ℕ) → x.caller ≡ q.number → IsKept q → (h : AppendsAt q x i word n z) → entries_by h.between q.number ≡ []
none_before_entry q z x i word n is kept h =
    none_between q z h.between x is kept h.kept (ap (λ (s : PassState). s.number) h.rest) (ap (λ (s : PassState). s.mine) h.rest) h.seen

-- the first step, which made no entry
pub none_first : (p q : PassState) (i : Item) (word n : ℕ) → Looked p i word n q → MakesNone p (i ∷ []) q
none_first p q i word n h = record { between = h.between; seen = h.seen; rest = h.rest; kept = h.kept }

-- one more
pub none_more : (p q z : PassState) (T : List Item) (i : Item) (word n : ℕ) (t : MakesNone p T q) (h : Looked q i word n z) → (more : MakesNone p (T ++ i ∷ []) z) × (more.between ≡ t.between ++ h.between)
none_more p q z T i word n t h = (
  record {
    between = t.between ++ h.between;
    seen = h.seen ∙ (ap (λ (l : List Entry). l ++ h.between) t.seen ∙ append_assoc p.seen t.between h.between);
    rest = h.rest
        ∙ (ap (λ (s : PassState). record s { seen = z.seen; trail = s.trail ++ i ∷ []; flight = Idle }) t.rest ∙ ap (λ (l : List Item). record p { seen = z.seen; trail = l; flight = Idle }) (append_assoc p.trail T (i ∷ [])));
    kept = h.kept;
  },
  refl,
)

-- steps without an entry make no call
pub none_is_made : NoneIsMade
none_is_made S p steps q was t = others_make_all S p t.between steps q was t.seen t.rest t.kept

-- and the step that made the entry
pub none_then_entry : (o : ℕ) (call : Call) (r : Reply) (p q z : PassState) (T : List Item) (i : Item) (word n : ℕ) (t : MakesNone p T q) (h : AppendsAt q (entry q.number o call r) i word n z)
    → (made : MakesEntry o call p r (T ++ i ∷ []) z) × (made.between ≡ t.between ++ h.between)
none_then_entry o call r p q z T i word n t h =
    let number : q.number ≡ p.number = ap (λ (s : PassState). s.number) t.rest in
    let x : Entry = entry p.number o call r in
    let same : entry q.number o call r ≡ x = ap (λ (c : ℕ). entry c o call r) number in (
      record {
        between = t.between ++ h.between;
        seen = h.seen ∙ ((λ k. (t.seen k ++ h.between) ++ same k ∷ []) ∙ ap (λ (l : List Entry). l ++ x ∷ []) (append_assoc p.seen t.between h.between));
        rest = h.rest ∙ ((λ k. (let s : PassState = t.rest k in record s { seen = z.seen; mine = s.mine ++ same k ∷ []; trail = s.trail ++ i ∷ []; flight = Idle }))
            ∙ ap (λ (l : List Item). record p { seen = z.seen; mine = p.mine ++ x ∷ []; trail = l; flight = Idle }) (append_assoc p.trail T (i ∷ [])));
        kept = h.kept;
      },
      refl,
    )
