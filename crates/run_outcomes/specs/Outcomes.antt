-- Outcomes of runs: the replies of each thread, and the last values.
use Rattle.std.specs.Prelude.{◌≡◌, ◌↔◌, ℕ, ◌+◌, ◌-◌, ◌*◌, ◌<◌, ◌%◌, nat_lt, true, max, if◌then◌else◌, List, [], ◌∷◌, length, map, slice_get, slice_index}
use Rattle.std.specs.List.{range_with_len}
use Rattle.std.specs.Ordering.{nat_cmp}
use Rattle.std.specs.Cmp.Lexicographic.{slice_cmp}
use Rattle.std.specs.BTreeSet.{BTreeSet, contains}
use Rattle.op_table.specs.declared.call.Reply.{Reply}
use Rattle.place_core.specs.declared.entry.Entry.{Entry}
use Rattle.place_core.specs.declared.script.Line.{Line}
use Rattle.place_core.specs.declared.shape.Shape.{Shape}
use Rattle.place_core.specs.Cells.{value_of}
use Rattle.place_core.specs.Runs.{replies_by, replies_from}
use Rattle.place_core.specs.Shapes.{cells_of_shape}
use Rattle.place_core.specs.ShapeRuns.{IsRun}
use Rattle.run_steps.specs.Parts.{lines_of}
use Rattle.run_steps.specs.Standing.{reply_number, told_thread, told_place}
use Rattle.run_machine.specs.States.{HasEveryState}

-- ---- outcomes as numbers

-- the lines of the longest script
abbrev pub longest : List (List Line) → ℕ
longest [] = 0
longest (script ∷ scripts) = max (length script) (longest scripts)

-- how many numbers replies have, two for each: of the first calls of all threads, then of the second ones, and so on
abbrev pub told_count : List (List Line) → ℕ
told_count scripts = 2 * (length scripts * longest scripts)

-- number i of the outcome of a history: those of the replies, 0 where a thread has none, and then the last values
abbrev pub outcome_cell : Shape → List (List Line) → List Entry → ℕ → ℕ
outcome_cell S scripts H i =
    if nat_lt i (told_count scripts)
    then reply_number (i % 2) (slice_get (replies_by H (told_thread (length scripts) i + 1)) (told_place (length scripts) i))
    else value_of (cells_of_shape S) H (i - told_count scripts)

-- the outcome of a history
abbrev pub outcome_of : Shape → List (List Line) → List Entry → List ℕ
outcome_of S scripts H = map (outcome_cell S scripts H) (range_with_len 0 (told_count scripts + length S.objects))

-- ---- what can be

-- some run has this outcome
pub record IsOutcome (S : Shape) (scripts : List (List Line)) (q : List ℕ) : Type 0 where
  pub history : List Entry
  pub run : IsRun S scripts history
  pub same : q ≡ outcome_of S scripts history

-- the set has exactly the outcomes of runs
abbrev pub HasEveryOutcome : Shape → List (List Line) → BTreeSet (List ℕ) → Type 0
HasEveryOutcome S scripts found = (q : List ℕ) → (contains (slice_cmp nat_cmp) found q ≡ true) ↔ IsOutcome S scripts q

-- ---- outcomes told

-- of each thread its replies, and what the last loads replied
pub record Told : Type 0 where
  pub replies : List (List Reply)
  pub last : List Reply

-- what a history tells
abbrev pub told_of : List (List Line) → List Entry → Told
told_of scripts H = record { replies = replies_from H 1 scripts; last = replies_by H 0 }

-- ---- states

-- in the state each thread made all its calls
abbrev pub EndsAll : List (List Line) → List ℕ → Type 0
EndsAll scripts s = (t : ℕ) → t < length scripts → slice_index s t ≡ length (lines_of scripts t)

-- number i of the outcome at such a state
abbrev pub cell_at : Shape → List (List Line) → List ℕ → ℕ → ℕ
cell_at S scripts s i =
    if nat_lt i (told_count scripts)
    then slice_index s (length scripts + length scripts + length S.objects + i)
    else slice_index s (length scripts + length scripts + (i - told_count scripts))

-- the outcome at such a state
abbrev pub outcome_at : Shape → List (List Line) → List ℕ → List ℕ
outcome_at S scripts s = map (cell_at S scripts s) (range_with_len 0 (told_count scripts + length S.objects))

-- the states of all beginnings of runs, with this many replies of each thread, are within the limit
abbrev pub IsWithin : Shape → List (List Line) → ℕ → ℕ → Type 0
IsWithin S scripts kept limit = (states : BTreeSet (List ℕ)) × HasEveryState S scripts kept limit states
