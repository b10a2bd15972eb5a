-- Fixed values: last values of objects that the order of calls can't change.
use Rattle.std.specs.Prelude.{ℕ, ◌+◌, List, [], ◌∷◌, ◌++◌, Option, Some, None, slice_get, ◌==◌, if◌then◌else◌}
use Rattle.op_table.specs.declared.kind.Kind.{Kind}
use Rattle.op_table.specs.declared.call.Call.{Call}
use Rattle.op_table.specs.Call.{after_of}
use Rattle.place_core.specs.declared.script.Line.{Line}
use Rattle.place_core.specs.Cells.{Cell}
use Rattle.ledger_sums.specs.Families.{are_of_one_family}

-- the calls on object o among these lines, in order
abbrev pub calls_on : ℕ → List Line → List Call
calls_on o [] = []
calls_on o (line ∷ lines) = if line.object == o then line.call ∷ calls_on o lines else calls_on o lines

-- the lines of all scripts, thread by thread in declared order
abbrev pub lines_of : List (List Line) → List Line
lines_of [] = []
lines_of (script ∷ scripts) = script ++ lines_of scripts

-- the value after these calls, made one after another on an object that held v
abbrev pub after_calls : Kind → ℕ → List Call → ℕ
after_calls kind v [] = v
after_calls kind v (call ∷ calls) = after_calls kind (after_of kind call v) calls

-- what these calls leave on an object in every order; none where they aren't loads and members of one family
abbrev pub fixed_by : Option Cell → List Call → Option ℕ
fixed_by None calls = None
fixed_by (Some cell) calls = if are_of_one_family calls then Some (after_calls cell.kind cell.start calls) else None

-- the fixed value of object o, where it has one
abbrev pub fixed_value : List Cell → List (List Line) → ℕ → Option ℕ
fixed_value cells scripts o = fixed_by (slice_get cells o) (calls_on o (lines_of scripts))

-- the fixed values of these objects, the first of them with number o
abbrev pub fixed_from : List Line → ℕ → List Cell → List (Option ℕ)
fixed_from lines o [] = []
fixed_from lines o (cell ∷ cells) = fixed_by (Some cell) (calls_on o lines) ∷ fixed_from lines (o + 1) cells

-- the fixed values of all objects, in declared order
abbrev pub fixed_values_of : List Cell → List (List Line) → List (Option ℕ)
fixed_values_of cells scripts = fixed_from (lines_of scripts) 0 cells
