-- Reading line by line, as the loop does.
use Rattle.std.proofs.Common.{◌≡◌, ℕ, ◌+◌, ◌<◌, ◌≤◌, Result, Ok, Err, List, [], ◌∷◌, length, refl, sym, ◌∙◌, arith}
use Rattle.std.proofs.lemmas.Bool.{lt-ltb, le-ltb}
use Rattle.work_lang.specs.declared.fault.LineFault.{LineFault}
use Rattle.work_lang.specs.declared.fault.LineFault.TheVariants as faults
use Rattle.work_lang.specs.declared.fault.Cause.TheVariants as causes
use Rattle.line_words.specs.Text.{lines_of}
use Rattle.work_lang.specs.Fault.{fault_at}
use Rattle.work_lang.specs.Limits.{most_bytes}
use Rattle.work_lang.specs.Workload.{Workload}
use Rattle.work_lang.specs.Reading.{State, Fault, after_line, Moves, run, start, ended, reading_of, Reads}

pub goes_on : (s t : State) (n : ℕ) (line : List ℕ) (all lines : List (List ℕ)) (total : Result Workload Fault) → all ≡ line ∷ lines → after_line s line ≡ Ok t → run s n all ≡ total → run t (n + 1) lines ≡ total
unfolding run
goes_on s t n line all lines total e h so_far =
    let one : run s n all ≡ run t (n + 1) lines = rw (e, h) refl in
    sym one ∙ so_far

pub stops : (f : LineFault) (s t : State) (n : ℕ) (line : List ℕ) (all lines : List (List ℕ)) (total : Result Workload Fault) → all ≡ line ∷ lines → Moves (Err f) t (after_line s line) → run s n all ≡ total → Reads (Err (fault_at f (n + 1))) total
unfolding run
stops (faults.Slip x) s t n line all lines total e h so_far =
    let one : run s n all ≡ Err (record { line = n + 1; word = x.word; cause = x.cause }) = rw (e, h) refl in
    sym so_far ∙ one
stops faults.NoMemory s t n line all lines total e h so_far = tt

pub is_done : (s : State) (n : ℕ) (rest : List ℕ) (total : Result Workload Fault) → length rest ≡ 0 → run s n (lines_of rest) ≡ total → total ≡ ended s.awaits s n
unfolding run lines_of
is_done s n [] total e so_far = sym so_far
is_done s n (x ∷ xs) total e so_far = absurd (omega arith)

pub reading_long : (text : List ℕ) → most_bytes < length text → reading_of text ≡ Err (record { line = 0; word = 0; cause = causes.TooLong })
unfolding reading_of
reading_long text h = rw (lt-ltb most_bytes (length text) h) refl

pub reading_is : (text : List ℕ) → length text ≤ most_bytes → run start 0 (lines_of text) ≡ reading_of text
unfolding reading_of
reading_is text h = rw (le-ltb most_bytes (length text) h) refl
