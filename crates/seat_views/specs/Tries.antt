-- What contracts say of the steps on a lane.
use Rattle.std.specs.Prelude.{◌≡◌, ◌≢◌, ℕ, true, false}
use Rattle.op_table.specs.declared.call.Call.{Call}
use Rattle.op_table.specs.declared.call.Reply.{Reply}
use Rattle.op_table.specs.declared.call.Reply.TheVariants.{Failed}
use Rattle.op_table.specs.Call.{answer_of}
use Rattle.place_core.specs.declared.places.WordOp.{WordOp}
use Rattle.place_core.specs.declared.shape.Shape.{Shape}
use Rattle.place_core.specs.Shapes.{kind_of}
use Rattle.seat_views.specs.declared.view.StepKind.TheVariants as kind
use Rattle.seat_views.specs.Places.{word_of_lane, data_of_lane, lane_at}
use Rattle.seat_views.specs.Deciding.{look_settles, lost_try_settles}
use Rattle.seat_views.specs.Steps.{entry, item, op_item}
use Rattle.seat_views.specs.States.{PassState, AppendsAt, Looked}

-- one step made the call: it found this word, and the reply is that of the lane's value there
pub record OpMade (S : Shape) (o : ℕ) (call : Call) (done : WordOp) (p : PassState) (r : Reply) (q : PassState) : Type 0 where
  pub found : ℕ
  pub reply : r ≡ answer_of (kind_of S o) call (lane_at S o found)
  pub appends : AppendsAt p (entry p.number o call r) (op_item (word_of_lane S o) done found) (data_of_lane S o) found q

-- a look that made the call: the word found settles it
pub record LookMade (S : Shape) (o : ℕ) (call : Call) (p : PassState) (r : Reply) (q : PassState) : Type 0 where
  pub found : ℕ
  pub decided : look_settles call (lane_at S o found) ≡ true
  pub reply : r ≡ answer_of (kind_of S o) call (lane_at S o found)
  pub appends : AppendsAt p (entry p.number o call r) (item (word_of_lane S o) kind.Look found) (data_of_lane S o) found q

-- a look that made no entry, and found the word n
pub record LookSaw (S : Shape) (o : ℕ) (call : Call) (p : PassState) (n : ℕ) (q : PassState) : Type 0 where
  pub undecided : look_settles call (lane_at S o n) ≡ false
  pub looked : Looked p (item (word_of_lane S o) kind.Look n) (data_of_lane S o) n q

-- a try that made the call: it won, or it found another word, at which the call failed
pub record TryMade (S : Shape) (o : ℕ) (call : Call) (found : ℕ) (p : PassState) (r : Reply) (q : PassState) : Type 0 where
  pub seen : ℕ
  pub won : seen ≡ found → r ≡ answer_of (kind_of S o) call (lane_at S o seen)
  pub failed : seen ≢ found → (lost_try_settles call (lane_at S o seen) ≡ true) × (r ≡ Failed (lane_at S o seen))
  pub appends : AppendsAt p (entry p.number o call r) (item (word_of_lane S o) kind.Try seen) (data_of_lane S o) seen q

-- a try that lost, made no entry, and found the word n
pub record TrySaw (S : Shape) (o : ℕ) (call : Call) (found : ℕ) (p : PassState) (n : ℕ) (q : PassState) : Type 0 where
  pub other : n ≢ found
  pub undecided : lost_try_settles call (lane_at S o n) ≡ false
  pub looked : Looked p (item (word_of_lane S o) kind.Try n) (data_of_lane S o) n q
