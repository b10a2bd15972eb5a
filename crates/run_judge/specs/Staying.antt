-- An agreeing step leads from a state to a state.
use Rattle.std.specs.Prelude.{ℕ, ◌*◌, ◌<◌, Bool, true, false, if◌then◌else◌, List, length, map, Option, Some, None, IfSome}
use Rattle.op_table.specs.declared.call.Reply.{Reply}
use Rattle.place_core.specs.declared.script.Line.{Line}
use Rattle.place_core.specs.declared.script.Piece.{Piece}
use Rattle.place_core.specs.declared.shape.Shape.{Shape}
use Rattle.place_core.specs.Pieces.{script_lines}
use Rattle.run_steps.specs.declared.moves.Move.{Move}
use Rattle.run_steps.specs.Machines.{IsAt}
use Rattle.run_steps.specs.Steps.{move_of, state_after, after_move}
use Rattle.run_steps.proofs.MachineFacts.{still_at, mapped_below}
use Rattle.run_judge.specs.Agreeing.{agrees_with, after_agreeing, agreeing_step}

-- what holds of the state that a move leads to holds where it agrees
pub stays_with : (S : Shape) (scripts : List (List Line)) (kept : ℕ) (wanted : List (List Reply)) (s : List ℕ) (m : Option Move) (P : List ℕ → Type 0) → IfSome (after_move S scripts kept s m) P → IfSome (after_agreeing S scripts kept wanted s m) P
stays_with S scripts kept wanted s None P h = tt
stays_with S scripts kept wanted s (Some move) P h = go (agrees_with wanted move)
  where
    go : (b : Bool) → (let o : Option (List ℕ) = if b then Some (state_after S scripts kept s move) else None in IfSome o P)
    go true = h
    go false = tt

-- so it is of a beginning of a run
pub still_there : (S : Shape) (scripts : List (List Piece)) (kept : ℕ) (wanted : List (List Reply)) (s : List ℕ) (k : ℕ) → IsAt S (map script_lines scripts) kept s → k < 2 * length scripts
    → IfSome (agreeing_step S (map script_lines scripts) kept wanted s k) (IsAt S (map script_lines scripts) kept)
still_there S scripts kept wanted s k at below =
    stays_with S (map script_lines scripts) kept wanted s (move_of S (map script_lines scripts) s k) (IsAt S (map script_lines scripts) kept) (still_at S (map script_lines scripts) kept s k at (mapped_below scripts k below))
