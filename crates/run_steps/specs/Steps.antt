-- The steps of a run, on states as lists of numbers.
use Rattle.std.specs.Prelude.{ℕ, ◌+◌, ◌/◌, ◌%◌, ◌==◌, Bool, false, not, ◌||◌, ◌&&◌, if◌then◌else◌, List, length, map, Option, Some, None, slice_index}
use Rattle.std.specs.List.{range_with_len}
use Rattle.op_table.specs.declared.call.Call.{Call}
use Rattle.op_table.specs.declared.call.Call.TheVariants.{CasWeak}
use Rattle.op_table.specs.declared.call.Reply.TheVariants as reply
use Rattle.op_table.specs.Call.{after_of, answer_of}
use Rattle.place_core.specs.declared.places.Place.{Place}
use Rattle.place_core.specs.declared.places.Place.TheVariants.{Lane, Parts}
use Rattle.place_core.specs.declared.script.Line.{Line}
use Rattle.place_core.specs.declared.shape.Shape.{Shape}
use Rattle.place_core.specs.Shapes.{place_of, kind_of}
use Rattle.run_steps.specs.declared.moves.Move.{Move}
use Rattle.run_steps.specs.Standing.{weak_word, line_at, reply_number, by_sort, told_thread, told_place, cell_count}

-- the place lies in this word, where one is meant
abbrev pub lies_at : Option ℕ → Option Place → Bool
lies_at None p = false
lies_at (Some w) None = false
lies_at (Some w) (Some (Lane v s d)) = v == w
lies_at (Some w) (Some (Parts l f n b)) = false

-- the move changes the word that is meant
abbrev pub moves_word : Shape → Option ℕ → Move → Bool
moves_word S word move = lies_at word (place_of S move.object) && not (move.left == move.value)

-- cell i after a move
abbrev pub cell_after : Shape → List (List Line) → List ℕ → Move → ℕ → ℕ
cell_after S scripts s move i =
    let n = length scripts in
    let m = length S.objects in
    by_sort n m i
    (λ t. if t == move.thread then move.place + 1 else slice_index s t)
    (λ t. if t == move.thread then 0 else (if slice_index s (n + t) == 1 || moves_word S (weak_word S (line_at scripts t (slice_index s t))) move then 1 else 0))
    (λ o. if o == move.object then move.left else slice_index s (n + n + o))
    (λ r. if (told_thread n r == move.thread) && (told_place n r == move.place) then reply_number (r % 2) (Some move.told) else slice_index s (n + n + m + r))

-- the state after a move
abbrev pub state_after : Shape → List (List Line) → ℕ → List ℕ → Move → List ℕ
state_after S scripts kept s move = map (cell_after S scripts s move) (range_with_len 0 (cell_count S scripts kept))

-- a weak exchange expects this value
abbrev pub expects : Call → ℕ → Bool
expects (CasWeak e n) v = e == v
expects _ v = false

-- the move by the table, or the failure of a weak exchange with the value that it expects, where that is earned
abbrev pub move_by : Shape → List ℕ → ℕ → ℕ → ℕ → ℕ → Line → Option Move
move_by S s n t p sort line =
    let v = slice_index s (n + n + line.object) in
    if sort == 0
    then Some (record { thread = t; place = p; object = line.object; value = v; told = answer_of (kind_of S line.object) line.call v; left = after_of (kind_of S line.object) line.call v })
    else (if expects line.call v && (slice_index s (n + t) == 1) then Some (record { thread = t; place = p; object = line.object; value = v; told = reply.Failed v; left = v }) else None)

abbrev pub move_at : Shape → List ℕ → ℕ → ℕ → ℕ → ℕ → Option Line → Option Move
move_at S s n t p sort None = None
move_at S s n t p sort (Some line) = move_by S s n t p sort line

-- the move of a choice: each thread has two, the second for a failure
abbrev pub move_of : Shape → List (List Line) → List ℕ → ℕ → Option Move
move_of S scripts s choice =
    let t = choice / 2 in move_at S s (length scripts) t (slice_index s t) (choice % 2) (line_at scripts t (slice_index s t))

abbrev pub after_move : Shape → List (List Line) → ℕ → List ℕ → Option Move → Option (List ℕ)
after_move S scripts kept s None = None
after_move S scripts kept s (Some move) = Some (state_after S scripts kept s move)

-- the state to which a choice leads
abbrev pub step_of : Shape → List (List Line) → ℕ → List ℕ → ℕ → Option (List ℕ)
step_of S scripts kept s choice = after_move S scripts kept s (move_of S scripts s choice)
