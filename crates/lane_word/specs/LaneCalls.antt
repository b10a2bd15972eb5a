-- What contracts say of calls on a lane.
use Rattle.std.specs.Prelude.{◌≡◌, ◌≢◌, ◌⊎◌, ◌↔◌, ℕ, ◌≤◌, List, [], ◌∷◌, ◌++◌, length, None}
use Rattle.op_table.specs.declared.call.Call.{Call}
use Rattle.op_table.specs.declared.call.Call.TheVariants.{CasWeak}
use Rattle.op_table.specs.declared.call.Reply.{Reply}
use Rattle.op_table.specs.declared.call.Reply.TheVariants.{Failed}
use Rattle.place_core.specs.declared.entry.Entry.{Entry}
use Rattle.place_core.specs.declared.places.WordOp.{WordOp}
use Rattle.place_core.specs.declared.places.Path.TheVariants.{One}
use Rattle.place_core.specs.declared.shape.Shape.{Shape}
use Rattle.place_core.specs.Shapes.{place_of}
use Rattle.place_core.specs.Operations.{plan_of}
use Rattle.place_core.specs.Earned.{changes_by_others}
use Rattle.seat_views.specs.declared.view.Item.{Item}
use Rattle.seat_views.specs.declared.view.Flight.TheVariants.{Idle}
use Rattle.seat_views.specs.declared.view.StepKind.TheVariants as kind
use Rattle.seat_views.specs.Places.{HasParts, data_of_lane, word_of_lane, lane_at}
use Rattle.seat_views.specs.Steps.{entry, item}
use Rattle.seat_views.specs.States.{PassState, IsKept}
use Rattle.seat_views.specs.Makes.{MakesCall}

-- there is no such object, or it has parts
abbrev pub HasNoLane : Shape → ℕ → Type 0
HasNoLane S o = (place_of S o ≡ None) ⊎ HasParts S o

-- the pass made the call, by one step and no load aside
pub record MakesAtOnce (S : Shape) (o : ℕ) (call : Call) (p : PassState) (r : Reply) (q : PassState) : Type 0 where
  pub made : MakesCall S o call p r q
  pub one : length made.steps ≡ 1

-- these are a look and a try that found two words, with one value of the lane
pub record IsMissedTry (S : Shape) (o e : ℕ) (steps : List Item) : Type 0 where
  pub looked : ℕ
  pub tried : ℕ
  pub split : steps ≡ item (word_of_lane S o) kind.Look looked ∷ item (word_of_lane S o) kind.Try tried ∷ []
  pub differ : tried ≢ looked
  pub look_value : lane_at S o looked ≡ e
  pub try_value : lane_at S o tried ≡ e

-- the pass made a weak exchange of e for n, by a step or two; it failed with the value that it expects exactly where the
-- steps are a look and a try that missed, and then another caller has changed the word
pub record MakesWeakly (S : Shape) (o e n : ℕ) (p : PassState) (r : Reply) (q : PassState) : Type 0 where
  pub made : MakesCall S o (CasWeak e n) p r q
  pub few : length made.steps ≤ 2
  pub one : (done : WordOp) → plan_of S o (CasWeak e n) ≡ One done → (length made.steps ≡ 1) × (r ≢ Failed e)
  pub spurious : (r ≡ Failed e) ↔ IsMissedTry S o e made.steps
  pub paid : r ≡ Failed e → 1 ≤ changes_by_others S (data_of_lane S o) p.number p.seen (made.made.between ++ entry p.number o (CasWeak e n) r ∷ [])

-- the pass made no entry by these steps; what is seen begins with all that was, and nothing is in flight
pub record MakesNone (p : PassState) (steps : List Item) (q : PassState) : Type 0 where
  pub between : List Entry
  pub seen : q.seen ≡ p.seen ++ between
  pub rest : q ≡ record p { seen = q.seen; trail = p.trail ++ steps; flight = Idle }
  pub kept : IsKept q
