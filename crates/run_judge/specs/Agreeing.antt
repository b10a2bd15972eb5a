-- Steps that agree with the replies of a report.
use Rattle.std.specs.Prelude.{◌≡◌, ℕ, ◌+◌, ◌==◌, ◌&&◌, Bool, false, if◌then◌else◌, List, [], Option, Some, None, slice_get, unwrap_or}
use mathlib.Core.List.{IsPrefix}
use Rattle.op_table.specs.declared.call.Reply.{Reply}
use Rattle.place_core.specs.declared.entry.Entry.{Entry}
use Rattle.place_core.specs.declared.script.Line.{Line}
use Rattle.place_core.specs.declared.shape.Shape.{Shape}
use Rattle.place_core.specs.Runs.{replies_by}
use Rattle.run_steps.specs.declared.moves.Move.{Move}
use Rattle.run_steps.specs.Parts.{IsPart}
use Rattle.run_steps.specs.Standing.{reply_number, state_of}
use Rattle.run_steps.specs.Steps.{move_of, state_after}

-- the replies of thread t, counted from 0, in the report
abbrev pub replies_at : List (List Reply) → ℕ → List Reply
replies_at wanted t = unwrap_or (slice_get wanted t) []

-- it is the reply
abbrev pub is_told : Reply → Option Reply → Bool
is_told told None = false
is_told told (Some reply) = (reply_number 0 (Some told) == reply_number 0 (Some reply)) && (reply_number 1 (Some told) == reply_number 1 (Some reply))

-- the move has the reply that stands in the report at its place
abbrev pub agrees_with : List (List Reply) → Move → Bool
agrees_with wanted move = is_told move.told (slice_get (replies_at wanted move.thread) move.place)

abbrev pub after_agreeing : Shape → List (List Line) → ℕ → List (List Reply) → List ℕ → Option Move → Option (List ℕ)
after_agreeing S scripts kept wanted s None = None
after_agreeing S scripts kept wanted s (Some move) = if agrees_with wanted move then Some (state_after S scripts kept s move) else None

-- the state to which a choice leads with the reply in the report
abbrev pub agreeing_step : Shape → List (List Line) → ℕ → List (List Reply) → List ℕ → ℕ → Option (List ℕ)
agreeing_step S scripts kept wanted s choice = after_agreeing S scripts kept wanted s (move_of S scripts s choice)

-- the replies of each thread are the first of those in the report
abbrev pub Agrees : List (List Reply) → List Entry → Type 0
Agrees wanted H = (t : ℕ) → IsPrefix (replies_by H (t + 1)) (replies_at wanted t)

-- the state is that of a beginning of a run that agrees with the report
pub record IsOfAgreeing (S : Shape) (scripts : List (List Line)) (kept : ℕ) (wanted : List (List Reply)) (s : List ℕ) : Type 0 where
  pub history : List Entry
  pub part : IsPart S scripts history
  pub agrees : Agrees wanted history
  pub same : s ≡ state_of S scripts kept history
