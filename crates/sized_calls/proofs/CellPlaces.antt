-- Where the object of a cell lies.
use Rattle.std.proofs.Common.{◌≡◌, ℕ, Bool, true, false, Some, Option, sym, ◌∙◌, if◌then◌else◌}
use Rattle.place_core.specs.declared.places.Place.{Place}
use Rattle.place_core.specs.declared.places.Place.TheVariants.{Lane, Parts}
use Rattle.place_core.proofs.ShapeFacts.{place_of-at, kind_of-at, start_of-at}
use Rattle.layout_plan.specs.Layout.{has_lane}
use Rattle.sized_calls.specs.Cells.{kind_of_size, cell_object, cell_shape}
use Rattle.sized_calls.specs.Laws.{CellsAreShape, ObjectIsCell, LockIsAddress}
use Rattle.sized_calls.proofs.CellShapes.{object_is, cells_are_shape}

pub cells_are : CellsAreShape
cells_are t cells ok packed most none = cells_are_shape t ok packed cells most none

pub object_is_cell : ObjectIsCell
object_is_cell t cells n c at =
    let here = object_is t cells n c at in
    (place_of-at (cell_shape t cells) n (cell_object t c) here, kind_of-at (cell_shape t cells) n (cell_object t c) here, start_of-at (cell_shape t cells) n (cell_object t c) here)

lock_of : (lane : Bool) (w s d k f n b l g m e : ℕ) → ◌≡◌ {A = Option Place} (Some (if lane then Lane w s d else Parts k f n b)) (Some (Parts l g m e)) → l ≡ k
lock_of true w s d k f n b l g m e is = absurd cc
lock_of false w s d k f n b l g m e is = cc

pub lock_is_address : LockIsAddress
lock_is_address t cells n c lock first parts bits at there =
    lock_of (has_lane t (kind_of_size c.size)) _ _ _ _ _ _ _ lock first parts bits (sym (object_is_cell t cells n c at).0 ∙ there)
