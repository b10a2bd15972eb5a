-- States of a machine of scripts over a shape.
use Rattle.std.specs.Prelude.{ℕ, ◌*◌, ◌<◌, List, length, IfSome}
use Rattle.place_core.specs.declared.script.Line.{Line}
use Rattle.place_core.specs.declared.shape.Shape.{Shape}
use Rattle.place_core.specs.Runs.{ScriptsFit}
use Rattle.place_core.specs.Shapes.{cells_of_shape, IsShape}
use Rattle.run_steps.specs.Steps.{step_of}
use Rattle.run_steps.specs.Laws.{IsOfPart}

-- the shape is valid, the scripts fit, and the state is that of a beginning of a run of them
pub record IsAt (S : Shape) (scripts : List (List Line)) (kept : ℕ) (s : List ℕ) : Type 0 where
  pub valid : IsShape S
  pub fits : ScriptsFit (cells_of_shape S) scripts
  pub part : IsOfPart S scripts kept s

-- a step leads from such a state to such a state
abbrev pub StepsStay : Type 0
StepsStay = (S : Shape) (scripts : List (List Line)) (kept : ℕ) (s : List ℕ) (k : ℕ) → IsAt S scripts kept s → k < 2 * length scripts → IfSome (step_of S scripts kept s k) (IsAt S scripts kept)
