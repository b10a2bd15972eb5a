-- Plans that are made once for a shape: of each object, whether its lane is sole.
use Rattle.std.specs.Prelude.{◌≡◌, Bool, false, List, map}
use Rattle.op_table.specs.declared.kind.Kind.{Kind}
use Rattle.op_table.specs.declared.order.StepSet.{StepSet}
use Rattle.op_table.specs.declared.call.Call.{Call}
use Rattle.place_core.specs.declared.places.Place.{Place}
use Rattle.place_core.specs.declared.places.Place.TheVariants.{Lane, Parts}
use Rattle.place_core.specs.declared.places.Object.{Object}
use Rattle.place_core.specs.declared.places.Path.{Path}
use Rattle.place_core.specs.declared.places.Path.TheVariants.{Locked}
use Rattle.place_core.specs.declared.shape.Shape.{Shape}
use Rattle.place_core.specs.Shapes.{is_sole}
use Rattle.place_core.specs.Operations.{op_for, path_by}

-- whether a place is the only lane of its word
abbrev pub is_sole_at : Shape → Place → Bool
is_sole_at S (Lane w s d) = is_sole S w
is_sole_at S (Parts l f n b) = false

-- of each object, in order, whether it is
abbrev pub soles_of : Shape → List Bool
soles_of S = map (λ (a : Object). is_sole_at S a.place) S.objects

-- plans that were made for the shape
abbrev pub ArePlansOf : List Bool → Shape → Type 0
ArePlansOf plans S = plans ≡ soles_of S

-- how a call on an object of this kind at this place is made, where it is known whether the place is a sole lane
abbrev pub path_with : StepSet → Kind → Call → Place → Bool → Path
path_with steps k call (Lane w s d) sole = path_by steps (op_for k s d sole call)
path_with steps k call (Parts l f n b) sole = Locked
