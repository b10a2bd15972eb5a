-- Objects as they are declared.
use Rattle.std.specs.Prelude.{◌<◌, List, map}
use Rattle.op_table.specs.Kind.{values_of, IsKind}
use Rattle.place_core.specs.declared.name.Declared.{Declared}
use Rattle.place_core.specs.Cells.{Cell}

-- the object is of a kind, and begins with a value of it
abbrev pub IsDeclared : Declared → Type 0
IsDeclared d = IsKind d.kind × (d.start < values_of d.kind)

-- an object's kind and start
abbrev pub cell_of : Declared → Cell
cell_of d = record { kind = d.kind; start = d.start }

abbrev pub cells_of : List Declared → List Cell
cells_of objects = map cell_of objects
