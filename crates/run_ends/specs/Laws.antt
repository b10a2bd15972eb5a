-- Laws of whole runs, as the module `laws` proves them.
use Rattle.std.specs.Prelude.{◌≡◌, ℕ, ◌+◌, List, [], ◌∷◌}
use Rattle.op_table.specs.declared.call.Reply.{Reply}
use Rattle.op_table.specs.declared.call.Reply.TheVariants as reply
use Rattle.place_core.specs.declared.entry.Entry.{Entry}
use Rattle.place_core.specs.declared.script.Line.{Line}
use Rattle.place_core.specs.declared.shape.Shape.{Shape}
use Rattle.place_core.specs.Cells.{Cell, value_of}
use Rattle.place_core.specs.Runs.{replies_by}
use Rattle.place_core.specs.Shapes.{cells_of_shape}
use Rattle.place_core.specs.ShapeRuns.{IsRun}
use Rattle.run_ends.specs.Ends.{TellsSame, IsWholePart}

-- up to its last loads a run is a beginning of one in which each thread made all its calls
abbrev pub RunsHaveEnds : Type 0
RunsHaveEnds = (S : Shape) (scripts : List (List Line)) (H : List Entry) → IsRun S scripts H → (G : List Entry) × IsWholePart S scripts G × TellsSame S scripts H G

-- each such beginning is one of a run
abbrev pub EndsAreOfRuns : Type 0
EndsAreOfRuns = (S : Shape) (scripts : List (List Line)) (G : List Entry) → IsWholePart S scripts G → (H : List Entry) × IsRun S scripts H × TellsSame S scripts H G

-- the replies with the last values of these objects, the first of them with number o
abbrev pub last_from : List Cell → List Entry → ℕ → List Cell → List Reply
last_from cells H o [] = []
last_from cells H o (cell ∷ rest) = reply.Value (value_of cells H o) ∷ last_from cells H (o + 1) rest

-- the last loads of a run reply the last values
abbrev pub LastLoadsTellValues : Type 0
LastLoadsTellValues = (S : Shape) (scripts : List (List Line)) (H : List Entry) → IsRun S scripts H → replies_by H 0 ≡ last_from (cells_of_shape S) H 0 (cells_of_shape S)
