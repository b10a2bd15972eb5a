-- What a shape has under an object's number.
use Rattle.std.proofs.Common.{◌≡◌, ℕ, ap, ◌∙◌, subst, Some, slice_get}
use Rattle.op_table.specs.declared.kind.Kind.{Kind}
use Rattle.place_core.specs.declared.places.Object.{Object}
use Rattle.place_core.specs.declared.places.Place.{Place}
use Rattle.place_core.specs.declared.places.Place.TheVariants.{Lane}
use Rattle.place_core.specs.declared.shape.Shape.{Shape}
use Rattle.place_core.specs.Shapes.{place_in, kind_in, start_in, place_of, kind_of, start_of, IsLane, IsShape}

pub place_of-at : (S : Shape) (o : ℕ) (a : Object) → slice_get S.objects o ≡ Some a → place_of S o ≡ Some a.place
place_of-at S o a at = ap place_in at

pub kind_of-at : (S : Shape) (o : ℕ) (a : Object) → slice_get S.objects o ≡ Some a → kind_of S o ≡ a.kind
kind_of-at S o a at = ap kind_in at

pub start_of-at : (S : Shape) (o : ℕ) (a : Object) → slice_get S.objects o ≡ Some a → start_of S o ≡ a.start
start_of-at S o a at = ap start_in at

-- an object of a valid shape that has a lane
pub lane-at : (S : Shape) → IsShape S → (o : ℕ) (a : Object) (w s d : ℕ) → slice_get S.objects o ≡ Some a → a.place ≡ Lane w s d → IsLane S a.kind w s d
lane-at S ok o a w s d at is = subst (λ (k : Kind). IsLane S k w s d) (kind_of-at S o a at) (ok.placed o (Lane w s d) (place_of-at S o a at ∙ ap (λ (p : Place). Some p) is))
