-- Runs of scripts over a shape.
use Rattle.std.specs.Prelude.{◌≡◌, ◌≤◌, List, length}
use Rattle.place_core.specs.declared.entry.Entry.{Entry}
use Rattle.place_core.specs.declared.script.Line.{Line}
use Rattle.place_core.specs.declared.shape.Shape.{Shape}
use Rattle.place_core.specs.Shapes.{cells_of_shape}
use Rattle.place_core.specs.Runs.{IsCellRun}
use Rattle.place_core.specs.Earned.{AllEarned}

-- a run over the shape's cells, in which each failure of a weak exchange with the value that it expects is earned
pub record IsRun (S : Shape) (scripts : List (List Line)) (H : List Entry) : Type 0 where
  pub run : IsCellRun (cells_of_shape S) scripts H
  pub earned : AllEarned S H

-- with at most one script, runs over shapes of the same cells, however they lie, are one history
abbrev pub OneThreadRunsAlike : Type 0
OneThreadRunsAlike = (S Z : Shape) (scripts : List (List Line)) (H K : List Entry) → cells_of_shape S ≡ cells_of_shape Z → length scripts ≤ 1 →
    IsRun S scripts H → IsRun Z scripts K → H ≡ K
