-- What contracts say of a call that goes the way of its plan.
use Rattle.std.specs.Prelude.{◌≡◌, ℕ, ◌+◌, ◌≤◌, true, [], ◌∷◌, ◌++◌, length}
use Rattle.op_table.specs.declared.call.Call.{Call}
use Rattle.op_table.specs.declared.call.Reply.{Reply}
use Rattle.op_table.specs.CallTests.{is_weak}
use Rattle.place_core.specs.declared.places.WordOp.{WordOp}
use Rattle.place_core.specs.declared.places.Path.TheVariants.{One, Loop}
use Rattle.place_core.specs.declared.shape.Shape.{Shape}
use Rattle.place_core.specs.Operations.{plan_of}
use Rattle.place_core.specs.Earned.{changes_by_others}
use Rattle.seat_views.specs.Places.{data_of_lane}
use Rattle.seat_views.specs.Steps.{entry}
use Rattle.seat_views.specs.States.{PassState}
use Rattle.seat_views.specs.Makes.{MakesCall}

-- the plan of the call is one step
abbrev pub IsOne : Shape → ℕ → Call → Type 0
IsOne S o call = (done : WordOp) × (plan_of S o call ≡ One done)

-- the plan of the call is a loop, or a lock
abbrev pub IsNotOne : Shape → ℕ → Call → Type 0
IsNotOne S o call = (done : WordOp) → plan_of S o call ≡ One done → ⊥

-- the pass made the call by the path that the plan names: one step where one serves; by a loop a look, a try and one try
-- more for each change of the word that others made meanwhile, and for a weak exchange two steps at most
pub record Serves (S : Shape) (o : ℕ) (call : Call) (p : PassState) (r : Reply) (q : PassState) : Type 0 where
  pub made : MakesCall S o call p r q
  pub one : IsOne S o call → length made.steps ≡ 1
  pub loop : plan_of S o call ≡ Loop → length made.steps ≤ 2 + changes_by_others S (data_of_lane S o) p.number p.seen (made.made.between ++ entry p.number o call r ∷ [])
  pub weak : plan_of S o call ≡ Loop → is_weak call ≡ true → length made.steps ≤ 2
