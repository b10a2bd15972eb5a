-- The report of a run, as a list of lines, each with its end.
use Rattle.std.specs.Prelude.{ℕ, ◌+◌, List, [], ◌∷◌, ◌++◌, Option, Some, None, codes, if◌then◌else◌}
use Rattle.std.specs.Fmt.{decimal}
use Rattle.op_table.specs.declared.kind.Kind.{Kind}
use Rattle.op_table.specs.declared.call.Reply.{Reply}
use Rattle.op_table.specs.declared.call.Reply.TheVariants as reply
use Rattle.op_table.specs.Call.{ReplyFits}
use Rattle.op_table.specs.Value.{value_text}
use Rattle.place_core.specs.RepliesState.{RepliesState}
use Rattle.place_core.specs.declared.name.Declared.{Declared}
use Rattle.place_core.specs.declared.script.Line.{Line}
use Rattle.place_core.specs.declared.entry.Entry.{Entry}
use Rattle.place_core.specs.DeclaredObjects.{cells_of}
use Rattle.place_core.specs.Runs.{replies_by, replies_from}
use Rattle.ledger_sums.specs.Fixed.{fixed_values_of}
use Rattle.work_lang.specs.Streams.{text_of}
use Rattle.work_lang.specs.Spelling.{Pairs}
use Rattle.work_lang.specs.Workload.{Workload, threads_of}
use Rattle.work_lang.specs.Reading.{kind_at}
use Rattle.work_lang.specs.Print.{call_line}
use Rattle.work_lang.specs.Canonical.{target_line}

-- ---- lines

-- the text of a reply of an object of this kind
abbrev pub reply_text : Kind → Reply → List ℕ
reply_text kind reply.Unit = codes "unit"
reply_text kind (reply.Value v) = value_text kind v
reply_text kind (reply.Bit b) = if b then codes "true" else codes "false"
reply_text kind (reply.Done v) = codes "ok " ++ value_text kind v
reply_text kind (reply.Failed v) = codes "err " ++ value_text kind v

-- a call with its reply
abbrev pub reply_line : List Declared → Line → Reply → List ℕ
reply_line objects line answered = call_line objects line ++ codes " = " ++ reply_text (kind_at objects line.object) answered ++ 10 ∷ []

abbrev pub reply_lines : List Declared → List Line → List Reply → List (List ℕ)
reply_lines objects [] rs = []
reply_lines objects (l ∷ ls) [] = []
reply_lines objects (l ∷ ls) (r ∷ rs) = reply_line objects l r ∷ reply_lines objects ls rs

abbrev pub thread_head : ℕ → List ℕ
thread_head i = codes "thread " ++ decimal i ++ 10 ∷ []

-- the threads, the first of them with number i
abbrev pub thread_lines : List Declared → ℕ → List (List Line) → List (List Reply) → List (List ℕ)
thread_lines objects i [] rss = []
thread_lines objects i (ls ∷ lss) [] = []
thread_lines objects i (ls ∷ lss) (rs ∷ rss) = thread_head i ∷ (reply_lines objects ls rs ++ thread_lines objects (i + 1) lss rss)

-- what stands after the last value of an object that has a fixed one
abbrev pub fixed_word : Option ℕ → List ℕ
fixed_word None = []
fixed_word (Some v) = codes " fixed"

-- an object, what its last load replied, and whether it has a fixed value
abbrev pub last_line : Declared → Reply → Option ℕ → List ℕ
last_line d answered fixed = d.name ++ 32 ∷ (reply_text d.kind answered ++ (fixed_word fixed ++ 10 ∷ []))

abbrev pub last_lines : List Declared → List Reply → List (Option ℕ) → List (List ℕ)
last_lines [] rs fs = []
last_lines (d ∷ ds) [] fs = []
last_lines (d ∷ ds) (r ∷ rs) [] = []
last_lines (d ∷ ds) (r ∷ rs) (f ∷ fs) = last_line d r f ∷ last_lines ds rs fs

-- the lines with these replies of the threads and of the last loads, and these fixed values
abbrev pub lines_with : Workload → List (List Reply) → List Reply → List (Option ℕ) → List (List ℕ)
lines_with w replies last fixed =
    target_line w.target
    ∷ (thread_lines w.objects 1 (threads_of w) replies ++ codes "last\n" ∷ last_lines w.objects last fixed)

-- ---- of a history

-- the fixed values of a workload's objects
abbrev pub fixed_of : Workload → List (Option ℕ)
fixed_of w = fixed_values_of (cells_of w.objects) (threads_of w)

-- the fixed values are told by the workload alone, all else by the history
abbrev pub report_lines : Workload → List Entry → List (List ℕ)
report_lines w H = lines_with w (replies_from H 1 (threads_of w)) (replies_by H 0) (fixed_of w)

-- the report of a history
abbrev pub report_of : Workload → List Entry → List ℕ
report_of w H = text_of (report_lines w H)

-- ---- what can be reported

-- a reply for each line, whose number is a value of the object's kind
abbrev pub AnswerLines : List Declared → List Line → List Reply → Type 0
AnswerLines objects lines replies = Pairs (λ (line : Line) r. ReplyFits (kind_at objects line.object) r) lines replies

abbrev pub AnswerThreads : List Declared → List (List Line) → List (List Reply) → Type 0
AnswerThreads objects threads replies = Pairs (AnswerLines objects) threads replies

-- a reply for each object, whose number is a value of the object's kind
abbrev pub AnswerObjects : List Declared → List Reply → Type 0
AnswerObjects objects replies = Pairs (λ (d : Declared) r. ReplyFits d.kind r) objects replies

-- the replies that are kept
abbrev pub items_of : RepliesState → List Reply
items_of kept = kept.items
