-- Laws of the shape of cells, as the module `laws` proves them.
use Rattle.std.specs.Prelude.{◌≡◌, ℕ, ◌%◌, ◌≤◌, true, List, length, Some, None, slice_get}
use Rattle.target_desc.specs.declared.target.Target.{Target}
use Rattle.target_desc.specs.Target.{IsTarget}
use Rattle.place_core.specs.declared.places.Place.TheVariants.{Parts}
use Rattle.place_core.specs.Shapes.{place_of, kind_of, start_of, IsShape, most_in_shape}
use Rattle.layout_plan.specs.Layout.{place_at}
use Rattle.sized_calls.specs.declared.cells.Cell.{Cell}
use Rattle.sized_calls.specs.Cells.{first_fault, kind_of_size, cell_shape}

-- the shape of cells without a fault is a valid one
abbrev pub CellsAreShape : Type 0
CellsAreShape = (t : Target) (cells : List Cell) → IsTarget t → t.packed ≡ true → length cells ≤ most_in_shape → first_fault t cells ≡ None → IsShape (cell_shape t cells)

-- object n is cell n: the unsigned integer of its size, placed at its own address, with its start
abbrev pub ObjectIsCell : Type 0
ObjectIsCell = (t : Target) (cells : List Cell) (n : ℕ) (c : Cell) → slice_get cells n ≡ Some c
    → (place_of (cell_shape t cells) n ≡ Some (place_at t (kind_of_size c.size) c.address)) × (kind_of (cell_shape t cells) n ≡ kind_of_size c.size) × (start_of (cell_shape t cells) n ≡ c.start)

-- the lock of an object with parts is its cell's address modulo the number of locks
abbrev pub LockIsAddress : Type 0
LockIsAddress = (t : Target) (cells : List Cell) (n : ℕ) (c : Cell) (lock first parts bits : ℕ) → slice_get cells n ≡ Some c → place_of (cell_shape t cells) n ≡ Some (Parts lock first parts bits) → lock ≡ c.address % t.locks
