-- Cutting a script into its longest runs, as far as it has come.
use Rattle.std.specs.Prelude.{◌≡◌, ℕ, ◌≤◌, List, [], ◌∷◌, ◌++◌, map}
use Rattle.place_core.specs.declared.script.Line.{Line}
use Rattle.place_core.specs.declared.script.Piece.{Piece}
use Rattle.place_core.specs.Pieces.{times_over, piece_lines, script_lines}
use Rattle.work_lang.specs.Spelling.{Pairs}
use Rattle.work_lang.specs.Second.{IsRunOf, DifferFromNext, AreLongestRuns}

-- the script has one piece more, which makes this line so many times
pub record AddsRun (line : Line) (times : ℕ) (old new : List Piece) : Type 0 where
  pub piece : Piece
  pub of_line : IsRunOf line piece
  pub made : piece_lines piece ≡ times_over times (line ∷ [])
  pub added : new ≡ old ++ piece ∷ []

-- of all lines some are left; before them stands this line so many times, in a run that may go on, and before it the
-- runs of the pieces
pub record AreRunsSoFar (all left : List Line) (line : Line) (times : ℕ) (pieces : List Piece) : Type 0 where
  pub firsts : List Line
  pub runs : Pairs IsRunOf firsts pieces
  pub longest : DifferFromNext (firsts ++ line ∷ [])
  pub some : 1 ≤ times
  pub split : script_lines pieces ++ (times_over times (line ∷ []) ++ left) ≡ all

-- of all scripts the rest is left, and what is made are the longest runs of those before it
pub record AreCutSoFar (all rest made : List (List Piece)) : Type 0 where
  pub done : List (List Line)
  pub cut : Pairs AreLongestRuns done made
  pub split : done ++ map script_lines rest ≡ map script_lines all
