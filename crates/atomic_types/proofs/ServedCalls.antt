-- A call goes the way of its plan.
use Rattle.std.proofs.Common.{◌≡◌, ℕ, true, false, refl, ap, sym, ◌∙◌, subst, arith}
use Rattle.op_table.specs.declared.call.Call.{Call}
use Rattle.op_table.specs.declared.call.Call.TheVariants.{CasWeak}
use Rattle.op_table.specs.declared.call.Reply.{Reply}
use Rattle.op_table.specs.declared.kind.Width.TheVariants.{W128}
use Rattle.op_table.specs.Kind.{bits_of}
use Rattle.op_table.specs.CallTests.{is_weak}
use Rattle.place_core.specs.declared.places.Place.TheVariants.{Lane}
use Rattle.place_core.specs.declared.places.WordOp.{WordOp}
use Rattle.place_core.specs.declared.places.Path.TheVariants.{One, Loop, Locked}
use Rattle.place_core.specs.declared.shape.Shape.{Shape}
use Rattle.place_core.specs.Shapes.{kind_of, IsLane, IsShape}
use Rattle.place_core.specs.Operations.{OpServes, plan_of}
use Rattle.layout_plan.specs.Laws.{HasLane}
use Rattle.seat_views.specs.States.{PassState}
use Rattle.seat_views.specs.Tries.{OpMade}
use Rattle.seat_views.specs.Makes.{MakesCall}
use Rattle.lane_word.specs.LaneCalls.{MakesAtOnce, MakesWeakly}
use Rattle.lane_word.proofs.LaneSteps.{op_at_once}
use Rattle.exchange_loop.specs.Turns.{Turns}
use Rattle.atomic_types.specs.Serving.{Serves}

-- an operation that serves is on a lane
pub serves_lane : (S : Shape) (o : ℕ) (call : Call) (done : WordOp) → OpServes S o call done → HasLane S o
serves_lane S o call done s = record { word = s.word; shift = s.shift; width = s.width; lane = s.lane }

-- ---- the ways

not_weak : (call : Call) → ((e n : ℕ) → call ≡ CasWeak e n → ⊥) → is_weak call ≡ false
not_weak (CasWeak e n) other = absurd (other e n refl)
not_weak _ other = refl

module _ (S : Shape) (o : ℕ) (call : Call) (p : PassState) (r : Reply) (q : PassState) where
  pub at_once : (done : WordOp) → plan_of S o call ≡ One done → OpServes S o call done → OpMade S o call done p r q → MakesAtOnce S o call p r q
  at_once done plan serves made = op_at_once S o call done p r q (serves_lane S o call done serves) plan made

  pub by_one : (done : WordOp) → plan_of S o call ≡ One done → OpServes S o call done → OpMade S o call done p r q → Serves S o call p r q
  by_one done plan serves made = let m = at_once done plan serves made in record {
    made = m.made;
    one = λ _. m.one;
    loop = λ loops. (let clash : One done ≡ Loop = sym plan ∙ loops in absurd cc);
    weak = λ loops _. (let clash : One done ≡ Loop = sym plan ∙ loops in absurd cc);
  }

  pub by_turns : (lane : ℕ) → lane ≡ o → plan_of S o call ≡ Loop → ((e n : ℕ) → call ≡ CasWeak e n → ⊥) → Turns S lane call p r q → Serves S o call p r q
  by_turns lane is plan strong turns = let t : Turns S o call p r q = subst (λ (z : ℕ). Turns S z call p r q) is turns in record {
    made = t.made;
    one = λ h. (let clash : One h.0 ≡ Loop = sym h.1 ∙ plan in absurd cc);
    loop = λ _. t.cost;
    weak = λ _ weak. (let clash : true ≡ false = sym weak ∙ not_weak call strong in absurd cc);
  }

  pub by_lock : plan_of S o call ≡ Locked → MakesCall S o call p r q → Serves S o call p r q
  by_lock plan made = record {
    made = made;
    one = λ h. (let clash : One h.0 ≡ Locked = sym h.1 ∙ plan in absurd cc);
    loop = λ loops. (let clash : Loop ≡ Locked = sym loops ∙ plan in absurd cc);
    weak = λ loops _. (let clash : Loop ≡ Locked = sym loops ∙ plan in absurd cc);
  }

weakly : (S : Shape) (o e n : ℕ) (p : PassState) (r : Reply) (q : PassState) → plan_of S o (CasWeak e n) ≡ Loop → MakesWeakly S o e n p r q → Serves S o (CasWeak e n) p r q
weakly S o e n p r q plan m = let few = m.few in record {
  made = m.made;
  one = λ h. (let clash : One h.0 ≡ Loop = sym h.1 ∙ plan in absurd cc);
  loop = λ _. omega arith;
  weak = λ _ _. few;
}

pub by_a_try : (S : Shape) (o : ℕ) (call : Call) (p : PassState) (r : Reply) (q : PassState) (lane e n : ℕ) → lane ≡ o → call ≡ CasWeak e n → plan_of S o call ≡ Loop → MakesWeakly S lane e n p r q → Serves S o call p r q
by_a_try S o call p r q lane e n is weak plan m =
    subst (λ (c : Call). Serves S o c p r q) (sym weak)
    (weakly S o e n p r q (subst (λ (c : Call). plan_of S o c ≡ Loop) weak plan) (subst (λ (z : ℕ). MakesWeakly S z e n p r q) is m))

-- ---- kinds

wide_lane : (S : Shape) (o w s d : ℕ) → IsLane S (kind_of S o) w s d → (kind_of S o).width ≡ W128 → ⊥
wide_lane S o w s d lane wide = let wide_is = lane.wide in let ends = lane.ends in let bits : bits_of (kind_of S o).width ≡ 128 = ap bits_of wide in absurd (omega arith)

-- a lane has at most 64 bits
pub lane_not_wide : (S : Shape) → IsShape S → (o : ℕ) → HasLane S o → (kind_of S o).width ≡ W128 → ⊥
lane_not_wide S ok o h = wide_lane S o h.word h.shift h.width (ok.placed o (Lane h.word h.shift h.width) h.lane)
