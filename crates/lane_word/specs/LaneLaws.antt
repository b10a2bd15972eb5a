-- A law of steps on a lane, as the module `laws` proves it.
use Rattle.std.specs.Prelude.{List, []}
use Rattle.place_core.specs.declared.shape.Shape.{Shape}
use Rattle.seat_views.specs.declared.view.Item.{Item}
use Rattle.seat_views.specs.States.{PassState, IsKept}
use Rattle.seat_views.specs.Makes.{Makes}
use Rattle.lane_word.specs.LaneCalls.{MakesNone}

-- steps that made no entry are those of no call
abbrev pub NoneIsMade : Type 0
NoneIsMade = (S : Shape) (p : PassState) (steps : List Item) (q : PassState) → IsKept p → MakesNone p steps q → Makes S [] p [] steps q
