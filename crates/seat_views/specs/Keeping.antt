-- What the types of an arena, a pass and a note keep of their fields.
use Rattle.std.specs.Prelude.{◌≡◌, ◌+◌, ℕ, [], List, Bool}
use Rattle.atomic_table.specs.Seated.{TableId}
use Rattle.atomic_table.specs.Table.{Me}
use Rattle.place_core.specs.Shapes.{IsShape}
use Rattle.layout_plan.specs.Plans.{ArePlansOf}
use Rattle.seat_views.specs.declared.hand.Hand.{Hand}
use Rattle.seat_views.specs.declared.view.Opening.{Opening}
use Rattle.seat_views.specs.declared.view.Role.TheVariants as role
use Rattle.seat_views.specs.declared.view.Beside.TheVariants.{Nobody}
use Rattle.seat_views.specs.declared.view.Flight.TheVariants.{Idle}
use Rattle.seat_views.specs.declared.view.View.{View}
use Rattle.seat_views.specs.Steps.{IsSoundView}
use Rattle.seat_views.specs.LockSteps.{HandFits}

-- the table is of the opening, whose shape is valid, and the plans are the shape's
abbrev pub KeepsArena : Opening → TableId → Opening → List Bool → Type 0
KeepsArena key id k plans = (key ≡ k) × (id.words ≡ 1 + k.shape.words + k.shape.locks) × IsShape k.shape × ArePlansOf plans k.shape

-- the numbers are the view's, the view is sound and has nothing beside it, and the hand fits the call in flight
abbrev pub KeepsPass : ℕ → ℕ → Hand → Me (Unit {0}) View → Type 0
KeepsPass number given hand me = (number ≡ me.0.number) × (given ≡ me.0.given) × (me.1 ≡ []) × IsSoundView me.0 × (me.0.beside ≡ Nobody) × HandFits me.0.shape.word_bits me.0.flight hand

abbrev pub KeepsNote : Me (Unit {0}) View → Type 0
KeepsNote me = (me.1 ≡ []) × (me.0.role ≡ role.Note) × (me.0.flight ≡ Idle)
