-- Cells of a region of bytes: which may be opened, and the shape that they make.
use Rattle.std.specs.Prelude.{ℕ, ◌+◌, ◌*◌, ◌%◌, ◌^◌, ◌==◌, nat_lt, false, not, List, [], ◌∷◌, map, Option, Some, None, if◌then◌else◌}
use Rattle.op_table.specs.declared.kind.Kind.{Kind}
use Rattle.op_table.specs.declared.kind.Width.{Width}
use Rattle.op_table.specs.declared.kind.Width.TheVariants.{W8, W16, W32, W64, W128}
use Rattle.op_table.specs.Words.{integer}
use Rattle.target_desc.specs.declared.target.Target.{Target}
use Rattle.place_core.specs.declared.places.Object.{Object}
use Rattle.place_core.specs.declared.shape.Shape.{Shape}
use Rattle.layout_plan.specs.Layout.{word_bytes, place_at, words_for}
use Rattle.sized_calls.specs.declared.cells.Cell.{Cell}
use Rattle.sized_calls.specs.declared.cells.RegionFault.{RegionFault}
use Rattle.sized_calls.specs.declared.cells.RegionFault.TheVariants.{BadSize, Unaligned, NotAfter, TooFar, BadStart}
use Rattle.sized_calls.specs.Sizes.{is_size}

-- ---- which cells may be opened

-- the place after a cell
abbrev pub cell_end : Cell → ℕ
cell_end c = c.address + c.size

-- how many bytes a region may have
abbrev pub most_bytes : Target → ℕ
most_bytes t = 2 ^ 24 * word_bytes t

-- the first cause of a fault at cell i, where the cell before it ends at `end`
abbrev pub cell_fault : Target → ℕ → ℕ → Cell → Option RegionFault
cell_fault t i end c = if not (is_size c.size) then Some (BadSize i)
    else if not (c.address % c.size == 0) then Some (Unaligned i)
    else if nat_lt c.address end then Some (NotAfter i)
    else if nat_lt (most_bytes t) (cell_end c) then Some (TooFar i)
    else if not (nat_lt c.start (2 ^ (8 * c.size))) then Some (BadStart i)
    else None

abbrev pub or_else : Option RegionFault → Option RegionFault → Option RegionFault
or_else None later = later
or_else (Some fault) later = Some fault

-- the fault of the first cell that has one, from cell i on
abbrev pub faults_from : Target → ℕ → ℕ → List Cell → Option RegionFault
faults_from t i end [] = None
faults_from t i end (c ∷ cs) = or_else (cell_fault t i end c) (faults_from t (i + 1) (cell_end c) cs)

-- and from the first on, before which nothing stands
abbrev pub first_fault : Target → List Cell → Option RegionFault
first_fault t cells = faults_from t 0 0 cells

-- ---- their shape

abbrev pub width_of_size : ℕ → Width
width_of_size n = if n == 1 then W8 else if n == 2 then W16 else if n == 4 then W32 else if n == 8 then W64 else W128

-- the unsigned integer of a size
abbrev pub kind_of_size : ℕ → Kind
kind_of_size n = integer false (width_of_size n)

-- a cell's object, at the cell's own address
abbrev pub cell_object : Target → Cell → Object
cell_object t c = record { kind = kind_of_size c.size; place = place_at t (kind_of_size c.size) c.address; start = c.start }

-- the place after the last cell
abbrev pub last_end : ℕ → List Cell → ℕ
last_end end [] = end
last_end end (c ∷ cs) = last_end (cell_end c) cs

abbrev pub cell_shape : Target → List Cell → Shape
cell_shape t cells = record {
  word_bits = t.word_bits;
  steps = t.steps;
  section = t.section;
  words = words_for t (last_end 0 cells);
  locks = t.locks;
  objects = map (cell_object t) cells;
}
