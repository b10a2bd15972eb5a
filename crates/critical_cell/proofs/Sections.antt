-- Objects of a section.
use Rattle.std.proofs.Common.{◌≡◌, ◌<◌, ℕ, true, length, Some}
use Rattle.place_core.specs.declared.places.Place.{Place}
use Rattle.place_core.specs.declared.places.Place.TheVariants.{Lane, Parts}
use Rattle.place_core.specs.declared.shape.Shape.{Shape}
use Rattle.place_core.specs.Shapes.{place_of, IsShape}
use Rattle.place_core.proofs.ShapeFacts.{place_of-at}
use Rattle.place_core.proofs.ShapeTests.{object_at}
use Rattle.seat_views.specs.Places.{HasParts}

-- each has parts
pub section_parts : (S : Shape) → IsShape S → S.section ≡ true → (o : ℕ) → o < length S.objects → HasParts S o
section_parts S ok section o lt = let a = object_at S.objects o lt in go a.0.place (place_of-at S o a.0 a.1)
  where
    go : (p : Place) → place_of S o ≡ Some p → HasParts S o
    go (Lane w s d) e = absurd (ok.section section o (Lane w s d) e)
    go (Parts l f n b) e = record { lock = l; first = f; count = n; bits = b; place = e }
