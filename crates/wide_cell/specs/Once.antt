-- What is said of a call on an object with parts that takes the lock at most once.
use Rattle.std.specs.Prelude.{◌≡◌, ◌≤◌, ℕ, false, List, [], ◌∷◌, ◌++◌}
use Rattle.op_table.specs.declared.call.Call.{Call}
use Rattle.op_table.specs.declared.call.Call.TheVariants.{Load}
use Rattle.op_table.specs.declared.call.Reply.{Reply}
use Rattle.place_core.specs.declared.shape.Shape.{Shape}
use Rattle.seat_views.specs.declared.view.Item.{Item}
use Rattle.seat_views.specs.declared.view.Flight.TheVariants.{Idle}
use Rattle.seat_views.specs.declared.view.StepKind.TheVariants as step
use Rattle.seat_views.specs.Places.{word_of_lock}
use Rattle.seat_views.specs.Items.{is_step, count_of}
use Rattle.seat_views.specs.Steps.{item}
use Rattle.seat_views.specs.Paths.{IsGlance}
use Rattle.seat_views.specs.States.{PassState, IsKept}
use Rattle.seat_views.specs.Makes.{MakesCall}
use Rattle.seq_lock.specs.declared.glances.Missed.{Missed}
use Rattle.seq_lock.specs.Holds.{Steps}
use Rattle.wide_cell.specs.Looks.{MissedBy}

-- the last of these steps is no take
pub record EndsInNoTake (T : List Item) : Type 0 where
  pub before : List Item
  pub last : Item
  pub split : T ≡ before ++ last ∷ []
  pub no_take : is_step step.Take last ≡ false

-- the pass made the call with at most one take, and not by it as the last step
pub record MakesOnce (S : Shape) (o : ℕ) (call : Call) (p : PassState) (r : Reply) (q : PassState) : Type 0 where
  pub made : MakesCall S o call p r q
  pub once : count_of step.Take made.steps ≤ 1
  pub ends : EndsInNoTake made.steps

-- these are the steps of a glance that missed
pub record MissedGlance (S : Shape) (o : ℕ) (T : List Item) : Type 0 where
  pub why : Missed
  pub missed : MissedBy S o why T
  pub glance : IsGlance S o T

-- what comes before the take: of a load a glance that missed, and of any other call nothing
abbrev pub ComesBeforeTake : Shape → ℕ → Call → List Item → Type 0
ComesBeforeTake S o Load T = MissedGlance S o T
ComesBeforeTake S o _ T = T ≡ []

-- the call was given up: its one take found 1. It made no entry, and nothing is in flight
pub record GivesUp (S : Shape) (o : ℕ) (call : Call) (p q : PassState) : Type 0 where
  pub before : List Item
  pub looked : ComesBeforeTake S o call before
  pub state : Steps p (before ++ item (word_of_lock S o) step.Take 1 ∷ []) Idle q
  pub kept : IsKept q
