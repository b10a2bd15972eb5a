-- What is left of a run without its last loads.
use Rattle.std.specs.Prelude.{◌≡◌, ℕ, ◌+◌, ◌<◌, List, length}
use Rattle.place_core.specs.declared.entry.Entry.{Entry}
use Rattle.place_core.specs.declared.script.Line.{Line}
use Rattle.place_core.specs.declared.shape.Shape.{Shape}
use Rattle.place_core.specs.Cells.{value_of}
use Rattle.place_core.specs.Runs.{replies_by}
use Rattle.place_core.specs.Shapes.{cells_of_shape}
use Rattle.run_steps.specs.Parts.{IsPart, lines_of}
use Rattle.run_steps.specs.Standing.{made_count}

-- each thread made as many calls as its script has lines
abbrev pub IsEnd : List (List Line) → List Entry → Type 0
IsEnd scripts G = (t : ℕ) → t < length scripts → made_count G t ≡ length (lines_of scripts t)

-- in both histories the threads have the same replies, and the objects the same last values
pub record TellsSame (S : Shape) (scripts : List (List Line)) (H G : List Entry) : Type 0 where
  pub replies : (t : ℕ) → t < length scripts → replies_by H (t + 1) ≡ replies_by G (t + 1)
  pub values : (o : ℕ) → value_of (cells_of_shape S) H o ≡ value_of (cells_of_shape S) G o

-- a beginning of a run in which each thread made all its calls
pub record IsWholePart (S : Shape) (scripts : List (List Line)) (G : List Entry) : Type 0 where
  pub part : IsPart S scripts G
  pub end : IsEnd scripts G
