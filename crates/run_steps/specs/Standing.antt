-- Where a run stands after a history, as a list of numbers: of each thread how many calls it made, of each thread whether its
-- next call may fail with the value that it expects, of each object its value, and the replies so far.
use Rattle.std.specs.Prelude.{ℕ, ◌+◌, ◌-◌, ◌*◌, ◌/◌, ◌%◌, ◌==◌, nat_lt, Bool, false, not, ◌||◌, if◌then◌else◌, List, [], ◌∷◌, ◌++◌, length, map, Option, Some, None, slice_get}
use Rattle.std.specs.List.{range_with_len}
use Rattle.op_table.specs.declared.call.Call.{Call}
use Rattle.op_table.specs.declared.call.Call.TheVariants.{CasWeak}
use Rattle.op_table.specs.declared.call.Reply.{Reply}
use Rattle.op_table.specs.declared.call.Reply.TheVariants as reply
use Rattle.place_core.specs.declared.entry.Entry.{Entry}
use Rattle.place_core.specs.declared.places.Place.{Place}
use Rattle.place_core.specs.declared.places.Place.TheVariants.{Lane, Parts}
use Rattle.place_core.specs.declared.script.Line.{Line}
use Rattle.place_core.specs.declared.shape.Shape.{Shape}
use Rattle.place_core.specs.Cells.{value_of, entries_by}
use Rattle.place_core.specs.Runs.{replies_by}
use Rattle.place_core.specs.Shapes.{place_of, start_of, cells_of_shape, word_of, is_sole}
use Rattle.place_core.specs.WordSums.{one_if}
use Rattle.run_steps.specs.Parts.{lines_of}

-- ---- which failures are earned

-- the word of a lane that shares it
abbrev pub shared_word : Shape → Option Place → Option ℕ
shared_word S None = None
shared_word S (Some (Lane w s d)) = if is_sole S w then None else Some w
shared_word S (Some (Parts l f n b)) = None

-- only for a weak exchange
abbrev pub only_weak : Call → Option ℕ → Option ℕ
only_weak (CasWeak e n) word = word
only_weak _ word = None

-- the shared word of a weak exchange; none of another line
abbrev pub weak_word : Shape → Option Line → Option ℕ
weak_word S None = None
weak_word S (Some line) = only_weak line.call (shared_word S (place_of S line.object))

-- the entry, after these, changes data word w
abbrev pub changes_word : Shape → ℕ → List Entry → Entry → Bool
changes_word S w before x = not (word_of S (before ++ x ∷ []) w == word_of S before w)

-- whether since the last entry of caller c another has changed word w: over these entries, which come after `before`, and where it was so
-- before them
unfoldable pub changed_since : Shape → ℕ → ℕ → Bool → List Entry → List Entry → Bool
changed_since S w c was before [] = was
changed_since S w c was before (x ∷ xs) = changed_since S w c (if x.caller == c then false else (was || changes_word S w before x)) (before ++ x ∷ []) xs

abbrev pub changed_in : Shape → Option ℕ → ℕ → List Entry → Bool
changed_in S None c H = false
changed_in S (Some w) c H = changed_since S w c false [] H

-- how many calls thread t made
abbrev pub made_count : List Entry → ℕ → ℕ
made_count H t = length (entries_by H (t + 1))

-- the line that thread t makes next, where it made p calls
abbrev pub line_at : List (List Line) → ℕ → ℕ → Option Line
line_at scripts t p = slice_get (lines_of scripts t) p

-- whether the next call of thread t is a weak exchange of which a failure with the value that it expects is earned
abbrev pub may_fail : Shape → List (List Line) → List Entry → ℕ → Bool
may_fail S scripts H t = changed_in S (weak_word S (line_at scripts t (made_count H t))) (t + 1) H

-- ---- replies as numbers

-- a reply as two numbers: what it is, from 1 on, and its value; both are 0 where there is none yet
abbrev pub reply_tag : Option Reply → ℕ
reply_tag None = 0
reply_tag (Some reply.Unit) = 1
reply_tag (Some (reply.Value v)) = 2
reply_tag (Some (reply.Bit b)) = 3
reply_tag (Some (reply.Done v)) = 4
reply_tag (Some (reply.Failed v)) = 5

abbrev pub reply_value : Option Reply → ℕ
reply_value None = 0
reply_value (Some reply.Unit) = 0
reply_value (Some (reply.Value v)) = v
reply_value (Some (reply.Bit b)) = one_if b
reply_value (Some (reply.Done v)) = v
reply_value (Some (reply.Failed v)) = v

abbrev pub reply_number : ℕ → Option Reply → ℕ
reply_number half r = if half == 0 then reply_tag r else reply_value r

-- ---- cells

-- of n threads and m objects: a cell holds a number of one of four sorts
abbrev pub by_sort : ℕ → ℕ → ℕ → (ℕ → ℕ) → (ℕ → ℕ) → (ℕ → ℕ) → (ℕ → ℕ) → ℕ
by_sort n m i count failure value told =
    if nat_lt i n then count i else (if nat_lt i (n + n) then failure (i - n) else (if nat_lt i (n + n + m) then value (i - (n + n)) else told (i - (n + n + m))))

-- the thread, the place among its calls, and the half of a reply's number
abbrev pub told_thread : ℕ → ℕ → ℕ
told_thread n r = r / 2 % n

abbrev pub told_place : ℕ → ℕ → ℕ
told_place n r = r / 2 / n

-- cell i after a history
abbrev pub cell_of : Shape → List (List Line) → List Entry → ℕ → ℕ
cell_of S scripts H i = by_sort (length scripts) (length S.objects) i
    (λ t. made_count H t)
    (λ t. one_if (may_fail S scripts H t))
    (λ o. value_of (cells_of_shape S) H o)
    (λ r. reply_number (r % 2) (slice_get (replies_by H (told_thread (length scripts) r + 1)) (told_place (length scripts) r)))

-- how many cells there are, where replies are kept to so many calls of each thread
abbrev pub cell_count : Shape → List (List Line) → ℕ → ℕ
cell_count S scripts kept = length scripts + length scripts + length S.objects + 2 * (length scripts * kept)

-- the state after a history
abbrev pub state_of : Shape → List (List Line) → ℕ → List Entry → List ℕ
state_of S scripts kept H = map (cell_of S scripts H) (range_with_len 0 (cell_count S scripts kept))

-- cell i before the first entry, of n threads
abbrev pub first_cell : Shape → ℕ → ℕ → ℕ
first_cell S n i = by_sort n (length S.objects) i (λ t. 0) (λ t. 0) (λ o. start_of S o) (λ r. 0)
