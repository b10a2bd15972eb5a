-- Laws of calls made one after another, as the module `laws` proves them.
use Rattle.std.specs.Prelude.{◌≡◌, ℕ, List, [], ◌∷◌, ◌++◌}
use Rattle.op_table.specs.declared.call.Call.{Call}
use Rattle.op_table.specs.declared.call.Reply.{Reply}
use Rattle.place_core.specs.declared.shape.Shape.{Shape}
use Rattle.seat_views.specs.declared.view.Item.{Item}
use Rattle.seat_views.specs.declared.view.Flight.TheVariants.{Idle}
use Rattle.seat_views.specs.States.{PassState, IsKept}
use Rattle.seat_views.specs.Makes.{Makes, MakesCall, MakesCalls}

-- no call, by no step
abbrev pub NothingMakesNone : Type 0
NothingMakesNone = (S : Shape) (p : PassState) → p.flight ≡ Idle → IsKept p → MakesCalls S [] p [] p

-- one call
abbrev pub CallIsMade : Type 0
CallIsMade = (S : Shape) (o : ℕ) (call : Call) (p : PassState) (r : Reply) (q : PassState) → IsKept p → MakesCall S o call p r q → MakesCalls S ((o, call) ∷ []) p (r ∷ []) q

-- steps that make no call
abbrev pub StepsMakeNone : Type 0
StepsMakeNone = (S : Shape) (p : PassState) (steps : List Item) (q : PassState) → q ≡ record p { trail = p.trail ++ steps; flight = Idle } → IsKept q → Makes S [] p [] steps q

-- what was made, and then more
abbrev pub MadeJoin : Type 0
MadeJoin = (S : Shape) (cs ds : List (ℕ × Call)) (p : PassState) (rs : List Reply) (T : List Item) (q : PassState) (qs : List Reply) (U : List Item) (z : PassState)
    → Makes S cs p rs T q → Makes S ds q qs U z → Makes S (cs ++ ds) p (rs ++ qs) (T ++ U) z

-- calls, and then more
abbrev pub CallsJoin : Type 0
CallsJoin = (S : Shape) (cs ds : List (ℕ × Call)) (p : PassState) (rs : List Reply) (q : PassState) (qs : List Reply) (z : PassState)
    → MakesCalls S cs p rs q → MakesCalls S ds q qs z → MakesCalls S (cs ++ ds) p (rs ++ qs) z
