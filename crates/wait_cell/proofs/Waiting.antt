-- Loads that are made one after another.
use Rattle.std.proofs.Common.{◌≡◌, ℕ, ◌+◌, ◌<◌, List, [], ◌∷◌, ◌++◌, length, refl, ap, sym, ◌∙◌, subst, arith, length-append}
use Rattle.std.specs.List.{AllByRecursion}
use Rattle.op_table.specs.declared.call.Call.{Call}
use Rattle.op_table.specs.declared.call.Call.TheVariants.{Load}
use Rattle.op_table.specs.declared.call.Reply.{Reply}
use Rattle.op_table.specs.declared.call.Reply.TheVariants as reply
use Rattle.place_core.specs.declared.shape.Shape.{Shape}
use Rattle.place_core.proofs.EntryLists.{all_append, all_map}
use Rattle.seat_views.specs.declared.view.Flight.TheVariants.{Idle}
use Rattle.seat_views.specs.declared.view.Item.{Item}
use Rattle.seat_views.specs.States.{PassState, IsKept}
use Rattle.seat_views.specs.Makes.{MakesCall, MakesCalls}
use Rattle.seat_views.proofs.Making.{nothing_makes_none, call_is_made, calls_join}
use Rattle.lane_word.specs.LaneCalls.{MakesAtOnce}
use Rattle.wait_cell.specs.Waits.{loads_of, telling, Loads, LoadsAll, LoadsUntil, Looks, LooksInVain}

loads_of-append : (o : ℕ) (ns ms : List ℕ) → loads_of o (ns ++ ms) ≡ loads_of o ns ++ loads_of o ms
loads_of-append o [] ms = refl
loads_of-append o (n ∷ ns) ms = ap (λ (l : List (ℕ × Call)). (o, Load) ∷ l) (loads_of-append o ns ms)

telling-append : (ns ms : List ℕ) → telling (ns ++ ms) ≡ telling ns ++ telling ms
telling-append [] ms = refl
telling-append (n ∷ ns) ms = ap (λ (l : List Reply). reply.Value n ∷ l) (telling-append ns ms)

module _ (S : Shape) (o : ℕ) where
  -- one load more
  one_more : (ns : List ℕ) (p q : PassState) (n : ℕ) (z : PassState) → Loads S o ns p q → MakesCall S o Load q (reply.Value n) z → Loads S o (ns ++ n ∷ []) p z
  one_more ns p q n z loads m =
      let one = call_is_made S o Load q (reply.Value n) z loads.made.kept m in
      let all = calls_join S (loads_of o ns) ((o, Load) ∷ []) p (telling ns) q (reply.Value n ∷ []) z loads one in
      subst (λ (t : List (ℕ × Call) × List Reply). MakesCalls S t.0 p t.1 z) (λ i. (sym (loads_of-append o ns (n ∷ [])) i, sym (telling-append ns (n ∷ [])) i)) all

  module _ (GoesOn : ℕ → Type 0) where
    pub loads_none : (p : PassState) → p.flight ≡ Idle → IsKept p → LoadsAll S o GoesOn p p
    loads_none p idle kept = record { numbers = []; went_on = tt; made = nothing_makes_none S p idle kept }

    pub loads_more : (p q : PassState) (n : ℕ) (z : PassState) → LoadsAll S o GoesOn p q → MakesCall S o Load q (reply.Value n) z → GoesOn n → LoadsAll S o GoesOn p z
    loads_more p q n z h m goes = record {
      numbers = h.numbers ++ n ∷ [];
      went_on = all_append GoesOn h.numbers (n ∷ []) h.went_on (goes, tt);
      made = one_more h.numbers p q n z h.made m;
    }

    pub loads_end : (Ends : ℕ → Type 0) (p q : PassState) (n : ℕ) (z : PassState) → LoadsAll S o GoesOn p q → MakesCall S o Load q (reply.Value n) z → Ends n → LoadsUntil S o GoesOn Ends p n z
    loads_end Ends p q n z h m ends = record {
      before = h.numbers;
      went_on = h.went_on;
      ended = ends;
      made = one_more h.numbers p q n z h.made m;
    }

  -- what goes on and what ends may be said in other words
  pub until_map : (G E P Q : ℕ → Type 0) (p : PassState) (v : ℕ) (q : PassState) → ((n : ℕ) → G n → P n) → ((n : ℕ) → E n → Q n) → LoadsUntil S o G E p v q → LoadsUntil S o P Q p v q
  until_map G E P Q p v q go stop h = record {
    before = h.before;
    went_on = all_map G P h.before go h.went_on;
    ended = stop v h.ended;
    made = h.made;
  }

-- ---- looks

-- so many loads were made, of one step each
pub record LooksSoFar (S : Shape) (o e turns : ℕ) (p q : PassState) : Type 0 where
  pub loads : LoadsAll S o (λ n. n ≡ e) p q
  pub count : length loads.numbers ≡ turns
  pub items : length q.trail ≡ length p.trail + turns

module _ (S : Shape) (o e : ℕ) where
  pub looks_none : (p : PassState) → p.flight ≡ Idle → IsKept p → LooksSoFar S o e 0 p p
  unfolding loads_none
  looks_none p idle kept = record { loads = loads_none S o (λ n. n ≡ e) p idle kept; count = refl; items = omega arith }

  one_item : (p : PassState) (n : ℕ) (q : PassState) → MakesAtOnce S o Load p (reply.Value n) q → length q.trail ≡ length p.trail + 1
  one_item p n q m =
      let call = m.made in let made = call.made in let one : length call.steps ≡ 1 = m.one in
      ap (λ (s : PassState). length s.trail) made.rest ∙ (length-append p.trail call.steps ∙ ap (λ (k : ℕ). length p.trail + k) one)

  pub looks_more : (turns : ℕ) (p q : PassState) (n : ℕ) (z : PassState) → LooksSoFar S o e turns p q → MakesAtOnce S o Load q (reply.Value n) z → n ≡ e → LooksSoFar S o e (turns + 1) p z
  unfolding loads_more
  looks_more turns p q n z h m same =
      let before : length q.trail ≡ length p.trail + turns = h.items in let step = one_item q n z m in
      let count : length h.loads.numbers ≡ turns = h.count in record {
        loads = loads_more S o (λ k. k ≡ e) p q n z h.loads m.made same;
        count = length-append h.loads.numbers (n ∷ []) ∙ ap (λ (k : ℕ). k + 1) count;
        items = omega arith;
      }

  pub looks_end : (turns most : ℕ) (p q : PassState) (n : ℕ) (z : PassState) → LooksSoFar S o e turns p q → turns < most → MakesAtOnce S o Load q (reply.Value n) z → (n ≡ e → ⊥) → Looks S o e most p n z
  unfolding loads_end
  looks_end turns most p q n z h below m other =
      let before : length q.trail ≡ length p.trail + turns = h.items in let step = one_item q n z m in
      let count : length h.loads.numbers ≡ turns = h.count in record {
        waits = loads_end S o (λ k. k ≡ e) (λ k. k ≡ e → ⊥) p q n z h.loads m.made other;
        few = omega arith;
        items = omega arith;
      }

  pub looks_vain : (turns most : ℕ) (p q : PassState) → LooksSoFar S o e turns p q → turns ≡ most → LooksInVain S o e most p q
  looks_vain turns most p q h all = record { loads = h.loads; all = h.count ∙ all; items = h.items ∙ ap (λ (k : ℕ). length p.trail + k) all }
