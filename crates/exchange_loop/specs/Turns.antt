-- What contracts say of a call by a loop of tries.
use Rattle.std.specs.Prelude.{◌≡◌, ℕ, ◌+◌, ◌≤◌, List, [], ◌∷◌, ◌++◌, length}
use Rattle.op_table.specs.declared.call.Call.{Call}
use Rattle.op_table.specs.declared.call.Reply.{Reply}
use Rattle.place_core.specs.declared.shape.Shape.{Shape}
use Rattle.place_core.specs.Shapes.{word_of}
use Rattle.place_core.specs.Earned.{changes_by_others}
use Rattle.seat_views.specs.declared.view.Item.{Item}
use Rattle.seat_views.specs.Places.{data_of_lane, word_of_lane, lane_at}
use Rattle.seat_views.specs.Steps.{entry}
use Rattle.seat_views.specs.States.{PassState}
use Rattle.seat_views.specs.Paths.{eat_tries, eat_loop}
use Rattle.seat_views.specs.Makes.{MakesCall}
use Rattle.lane_word.specs.LaneCalls.{MakesNone}

-- the pass made the call by no more steps than a look, a try, and one for each change of the word that others made meanwhile
pub record Turns (S : Shape) (o : ℕ) (call : Call) (p : PassState) (r : Reply) (q : PassState) : Type 0 where
  pub made : MakesCall S o call p r q
  pub cost : length made.steps ≤ 2 + changes_by_others S (data_of_lane S o) p.number p.seen (made.made.between ++ entry p.number o call r ∷ [])

-- the loop's invariant: a look and lost tries were made, each lost beside a change that another made; the word found last is n,
-- and the tries that follow go from there
pub record Turning (S : Shape) (o : ℕ) (call : Call) (p : PassState) (n : ℕ) (q : PassState) : Type 0 where
  pub steps : List Item
  pub none : MakesNone p steps q
  pub word_is : word_of S q.seen (data_of_lane S o) ≡ n
  pub goes_on : (U : List Item) → eat_loop (lane_at S o) (word_of_lane S o) call (steps ++ U) ≡ eat_tries (lane_at S o) (word_of_lane S o) call n U
  pub lost : ℕ
  pub count : length steps ≡ 1 + lost
  pub paid : lost ≤ changes_by_others S (data_of_lane S o) p.number p.seen none.between
