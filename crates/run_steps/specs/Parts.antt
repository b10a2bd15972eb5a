-- Beginnings of runs.
use Rattle.std.specs.Prelude.{ℕ, ◌+◌, ◌≤◌, List, [], length, map, slice_get, unwrap_or}
use Rattle.std.specs.List.{AllByRecursion}
use mathlib.Core.List.{IsPrefix}
use Rattle.place_core.specs.declared.entry.Entry.{Entry}
use Rattle.place_core.specs.declared.script.Line.{Line}
use Rattle.place_core.specs.declared.shape.Shape.{Shape}
use Rattle.place_core.specs.Cells.{IsLegal, entries_by}
use Rattle.place_core.specs.Runs.{made_of, asked_by}
use Rattle.place_core.specs.Shapes.{cells_of_shape}
use Rattle.place_core.specs.Earned.{AllEarned}

-- the lines of thread t, counted from 0; none where there is no such thread
abbrev pub lines_of : List (List Line) → ℕ → List Line
lines_of scripts t = unwrap_or (slice_get scripts t) []

-- the entry is of one of n threads, whose callers are counted from 1
abbrev pub IsOfThread : ℕ → Entry → Type 0
IsOfThread n x = (1 ≤ x.caller) × (x.caller ≤ n)

-- the beginning of a run, up to the last loads: a legal history in which each thread made the first calls of its script, once and in order,
-- and each failure of a weak exchange with the value that it expects is earned
pub record IsPart (S : Shape) (scripts : List (List Line)) (G : List Entry) : Type 0 where
  pub legal : IsLegal (cells_of_shape S) G
  pub threads : AllByRecursion (IsOfThread (length scripts)) G
  pub scripted : (t : ℕ) → IsPrefix (map made_of (entries_by G (t + 1))) (asked_by (lines_of scripts t))
  pub earned : AllEarned S G
