-- Laws of fixed values, as the module `laws` proves them.
use Rattle.std.specs.Prelude.{◌≡◌, ℕ, ◌+◌, ◌%◌, ◌<◌, List, [], ◌∷◌, true, Some, slice_get, length}
use Rattle.std.specs.List.{AllByRecursion}
use Rattle.op_table.specs.declared.kind.Kind.{Kind}
use Rattle.op_table.specs.declared.call.Call.{Call}
use Rattle.op_table.specs.Kind.{values_of, IsKind}
use Rattle.op_table.specs.Call.{after_of, CallFits}
use Rattle.place_core.specs.declared.entry.Entry.{Entry}
use Rattle.place_core.specs.declared.script.Line.{Line}
use Rattle.place_core.specs.declared.shape.Shape.{Shape}
use Rattle.place_core.specs.Cells.{Cell, value_of}
use Rattle.place_core.specs.Runs.{IsCellRun}
use Rattle.place_core.specs.Shapes.{IsShape, cells_of_shape}
use Rattle.ledger_sums.specs.declared.families.Family.TheVariants.{Sums}
use Rattle.ledger_sums.specs.Families.{all_suit, are_of_one_family}
use Rattle.ledger_sums.specs.Fixed.{calls_on, lines_of, fixed_value, fixed_values_of}
use Rattle.ledger_sums.specs.Totals.{total_of}

-- the object is of a kind, and begins with a value of it
abbrev pub IsSoundCell : Cell → Type 0
IsSoundCell cell = IsKind cell.kind × (cell.start < values_of cell.kind)

-- two calls of one family leave the same value in either order
abbrev pub EitherOrder : Type 0
EitherOrder = (kind : Kind) (c d : Call) (v : ℕ) → IsKind kind → CallFits kind c → CallFits kind d → v < values_of kind →
    are_of_one_family (c ∷ d ∷ []) ≡ true → after_of kind d (after_of kind c v) ≡ after_of kind c (after_of kind d v)

-- whatever the order of calls in a run, the last value is the fixed one
abbrev pub FixedIsLast : Type 0
FixedIsLast = (cells : List Cell) (scripts : List (List Line)) (H : List Entry) (o v : ℕ) → AllByRecursion IsSoundCell cells →
    IsCellRun cells scripts H → fixed_value cells scripts o ≡ Some v → value_of cells H o ≡ v

-- the same of the objects of a shape
abbrev pub FixedIsLastOfShape : Type 0
FixedIsLastOfShape = (S : Shape) (scripts : List (List Line)) (H : List Entry) (o v : ℕ) → IsShape S →
    IsCellRun (cells_of_shape S) scripts H → fixed_value (cells_of_shape S) scripts o ≡ Some v → value_of (cells_of_shape S) H o ≡ v

-- an object that is only loaded, added to and subtracted from ends at the exact sum, wrapped
abbrev pub SumIsExact : Type 0
SumIsExact = (cells : List Cell) (scripts : List (List Line)) (H : List Entry) (o : ℕ) (cell : Cell) → slice_get cells o ≡ Some cell → IsSoundCell cell →
    IsCellRun cells scripts H → all_suit Sums (calls_on o (lines_of scripts)) ≡ true → value_of cells H o ≡ (cell.start + total_of cell.kind (calls_on o (lines_of scripts))) % values_of cell.kind

-- the list of fixed values has each object's at its number
abbrev pub FixedAtNumber : Type 0
FixedAtNumber = (cells : List Cell) (scripts : List (List Line)) (o : ℕ) → o < length cells → slice_get (fixed_values_of cells scripts) o ≡ Some (fixed_value cells scripts o)
