-- Laws of steps, as the module `laws` proves them.
use Rattle.std.specs.Prelude.{◌≡◌, ◌↔◌, ℕ, ◌*◌, List, [], length}
use Rattle.place_core.specs.declared.entry.Entry.{Entry}
use Rattle.place_core.specs.declared.script.Line.{Line}
use Rattle.place_core.specs.declared.shape.Shape.{Shape}
use Rattle.place_core.specs.Runs.{ScriptsFit}
use Rattle.place_core.specs.Shapes.{cells_of_shape}
use Rattle.outcomes.specs.Reached.{Reached}
use Rattle.run_steps.specs.Parts.{IsPart}
use Rattle.run_steps.specs.Standing.{state_of}
use Rattle.run_steps.specs.Steps.{step_of}

-- the state is that of a beginning of a run
pub record IsOfPart (S : Shape) (scripts : List (List Line)) (kept : ℕ) (s : List ℕ) : Type 0 where
  pub history : List Entry
  pub part : IsPart S scripts history
  pub same : s ≡ state_of S scripts kept history

-- by steps exactly the states of beginnings of runs are reached
abbrev pub StepsMakeParts : Type 0
StepsMakeParts = (S : Shape) (scripts : List (List Line)) (kept : ℕ) → ScriptsFit (cells_of_shape S) scripts → (s : List ℕ) →
    Reached (2 * length scripts) (step_of S scripts kept) (state_of S scripts kept []) s ↔ IsOfPart S scripts kept s
