-- What is said of a lock that is taken once, or not.
use Rattle.std.specs.Prelude.{◌≡◌, ℕ, [], ◌∷◌}
use Rattle.op_table.specs.declared.call.Call.{Call}
use Rattle.op_table.specs.declared.call.Reply.{Reply}
use Rattle.place_core.specs.declared.shape.Shape.{Shape}
use Rattle.seat_views.specs.declared.view.Flight.TheVariants.{Idle}
use Rattle.seat_views.specs.declared.view.StepKind.TheVariants as step
use Rattle.seat_views.specs.Places.{word_of_lock}
use Rattle.seat_views.specs.Items.{count_of}
use Rattle.seat_views.specs.Steps.{item}
use Rattle.seat_views.specs.States.{PassState, IsKept}
use Rattle.seq_lock.specs.Holds.{Steps, Took, MakesLocked}

-- one take found another number than 1, the lock's stamp: the lock is held
pub record TookOnce (S : Shape) (o first : ℕ) (p q : PassState) : Type 0 where
  pub took : Took S o first p q
  pub once : took.steps ≡ item (word_of_lock S o) step.Take took.stamp ∷ []

-- one take found 1: the lock is another's, no entry was made, and nothing is in flight
pub record FoundHeld (S : Shape) (o : ℕ) (p q : PassState) : Type 0 where
  pub state : Steps p (item (word_of_lock S o) step.Take 1 ∷ []) Idle q
  pub kept : IsKept q

-- a call was made under the lock, which one take got
pub record MakesLockedOnce (S : Shape) (o : ℕ) (call : Call) (p : PassState) (r : Reply) (q : PassState) : Type 0 where
  pub locked : MakesLocked S o call p r q
  pub once : count_of step.Take locked.steps ≡ 1
