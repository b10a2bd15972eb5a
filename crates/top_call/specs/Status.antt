-- What each status of the program says.
use Rattle.std.specs.Prelude.{◌≡◌, ◌⊎◌, ℕ, Bool, true, false, List, [], ◌∷◌, ◌++◌, length, Some, None, IsSomeAnd, MatchOption, MatchResult, codes}
use Rattle.std.specs.declared.option.Option.{Option}
use Rattle.std.specs.Fmt.{decimal}
use Rattle.std.specs.Io.KnownBytes.{Appends}
use Rattle.target_desc.specs.declared.target.Target.{Target}
use Rattle.layout_plan.specs.Layout.{shape_of}
use Rattle.work_lang.specs.declared.fault.Cause.{Cause}
use Rattle.work_lang.specs.declared.fault.Cause.TheVariants as causes
use Rattle.work_lang.specs.Counts.{raised}
use Rattle.work_lang.specs.Faults.{Rose}
use Rattle.work_lang.specs.Streams.{text_of, AppendsFront, AppendsFirst}
use Rattle.work_lang.specs.Workload.{Workload, threads_of}
use Rattle.work_lang.specs.Generated.{many_of}
use Rattle.work_lang.specs.Reading.{Fault, reading_of}
use Rattle.report_text.specs.Report.{report_lines}
use Rattle.report_text.specs.Many.{many_lines}
use Rattle.whole_run.specs.WholeRuns.{RanWhole}
use Rattle.top_call.specs.declared.outcome.Ended.{Ended}
use Rattle.top_call.specs.declared.status.Status.{Status}
use Rattle.top_call.specs.declared.status.Status.TheVariants.{Done, Refused, Usage, ReadFault, WriteFault, NoMemory}
use Rattle.top_call.specs.declared.command.Command.{Command}
use Rattle.top_call.specs.declared.command.Command.TheVariants.{Run, Check, Convert, Plan, Targets, Many}
use Rattle.top_call.specs.declared.command.WordsFault.{WordsFault}
use Rattle.top_call.specs.declared.command.WordsFault.TheVariants as words
use Rattle.top_call.specs.Outside.{Outside}
use Rattle.top_call.specs.Commands.{reads}
use Rattle.top_call.specs.Inputs.{WasSpelled, WasFaulty}
use Rattle.top_call.specs.Texts.{on_target, IsTold, description_of, targets_lines}

-- ---- texts

abbrev pub cause_text : Cause → List ℕ
cause_text causes.TooLong = codes "TooLong"
cause_text causes.NotAscii = codes "NotAscii"
cause_text causes.Version = codes "Version"
cause_text causes.UnknownWord = codes "UnknownWord"
cause_text causes.BadNumber = codes "BadNumber"
cause_text causes.OutOfRange = codes "OutOfRange"
cause_text causes.Twice = codes "Twice"
cause_text causes.UnknownName = codes "UnknownName"
cause_text causes.NotForKind = codes "NotForKind"
cause_text causes.BadOrder = codes "BadOrder"
cause_text causes.Missing = codes "Missing"
cause_text causes.Extra = codes "Extra"
cause_text causes.Limit = codes "Limit"
cause_text causes.BadTarget = codes "BadTarget"
cause_text causes.Unclosed = codes "Unclosed"

-- `line L word W CAUSE`
abbrev pub fault_line : ℕ → ℕ → Cause → List ℕ
fault_line line word cause = codes "line " ++ decimal line ++ codes " word " ++ decimal word ++ 32 ∷ (cause_text cause ++ 10 ∷ [])

-- ---- what was read and written

-- how the sink changed by lines, each with its end
abbrev pub Taking : Type 1
Taking = Outside → Outside → List (List ℕ) → Type 0

-- all of their text was taken, by one write a line where each is taken whole or not at all
abbrev pub AllTaken : Taking
AllTaken before after lines = Appends before.taken after.taken (text_of lines) × (before.whole ≡ true → after.tries ≡ raised before.tries (length lines))

-- a front of their text was taken, and not all of it: the first lines, where each is taken whole or not at all, by one
-- write a line, and the write that failed
abbrev pub FrontTaken : Taking
FrontTaken before after lines = AppendsFront before.taken after.taken (text_of lines)
    × (before.whole ≡ true → AppendsFirst before.taken after.taken before.tries after.tries lines)

-- a workload was read, of which this is the one on the target that is asked for: where the source tells its bytes, they
-- spell that workload and were read to their end
pub record WasRead (target : Option Target) (before after : Outside) (work : Workload) : Type 0 where
  pub read : Workload
  pub spelled : WasSpelled before.left after.left read
  pub asked : work ≡ on_target target read

-- a run of the workload that was read has ended: the arena of its layout has one history, which the root has seen and
-- which is a run of the workload; and this was written of that history's report
pub record RunEnded (Took : Taking) (target : Option Target) (before after : Outside) (e : Ended) : Type 0 where
  pub read : WasRead target before after e.work
  pub whole : RanWhole (shape_of e.work.target e.work.objects) (threads_of e.work) e.arena e.root
  pub written : Took before after (report_lines e.work e.root.seen)

-- a workload was read, and this was written of the command's description of it
pub record Described (Took : Taking) (command : Command) (before after : Outside) : Type 0 where
  pub work : Workload
  pub told : Workload
  pub read : WasSpelled before.left after.left work
  pub is_told : IsTold command work told
  pub written : Took before after (description_of command told)

-- a run of the workload of these three numbers has ended, on the arena of its layout; and this was written of its lines,
-- which are told by the numbers alone
pub record ManyEnded (Took : Taking) (seed threads calls : ℕ) (before after : Outside) (e : Ended) : Type 0 where
  pub work : e.work ≡ many_of seed threads calls
  pub whole : RanWhole (shape_of e.work.target e.work.objects) (threads_of e.work) e.arena e.root
  pub written : Took before after (many_lines seed threads calls)

-- this was written of the command's own lines; a run has ended only where the command runs
abbrev pub WroteOwn : Taking → Command → Outside → Outside → Option Ended → Type 0
WroteOwn Took (Run t) before after ended = IsSomeAnd ended (RunEnded Took t before after)
WroteOwn Took Check before after ended = (ended ≡ None) × Described Took Check before after
WroteOwn Took Convert before after ended = (ended ≡ None) × Described Took Convert before after
WroteOwn Took (Plan t) before after ended = (ended ≡ None) × Described Took (Plan t) before after
WroteOwn Took Targets before after ended = (ended ≡ None) × Took before after targets_lines
WroteOwn Took (Many seed threads calls) before after ended = IsSomeAnd ended (ManyEnded Took seed threads calls before after)

-- a text with a fault was read, and this was written of the fault's line; nothing was run
pub record FaultTold (Took : Taking) (command : Command) (before after : Outside) (ended : Option Ended) : Type 0 where
  pub reads : reads command ≡ true
  pub fault : Fault
  pub read : WasFaulty before.left after.left fault
  pub written : Took before after (fault_line fault.line fault.word fault.cause ∷ [])
  pub none : ended ≡ None

-- ---- statuses

-- what a status says of a command
abbrev pub SaysOf : Command → Outside → Outside → Status → Option Ended → Type 0
SaysOf command before after Done ended = WroteOwn AllTaken command before after ended
SaysOf command before after Refused ended = FaultTold AllTaken command before after ended
SaysOf command before after Usage ended = ⊥
SaysOf command before after ReadFault ended = (reads command ≡ true) × Rose before.read_faults after.read_faults × (ended ≡ None)
SaysOf command before after WriteFault ended =
    Rose before.write_faults after.write_faults × (WroteOwn FrontTaken command before after ended ⊎ FaultTold FrontTaken command before after ended)
SaysOf command before after NoMemory ended = ended ≡ None

-- the status of words that ask for nothing
abbrev pub status_of : WordsFault → Status
status_of words.Usage = Usage
status_of words.NoMemory = NoMemory

-- what it says of what the words ask for: where they ask for nothing, that they are no form, or that memory was wanting
abbrev pub Says : Option Command → Outside → Outside → Status → Option Ended → Type 0
Says (Some command) before after status ended = SaysOf command before after status ended
Says None before after status ended = ((status ≡ Usage) ⊎ (status ≡ NoMemory)) × (ended ≡ None)

-- which counts of faults are as they were: a fault is told wherever one rose, and never as want of memory
abbrev pub CountsStay : Status → Outside → Outside → Type 0
CountsStay Done before after = (after.read_faults ≡ before.read_faults) × (after.write_faults ≡ before.write_faults)
CountsStay Refused before after = (after.read_faults ≡ before.read_faults) × (after.write_faults ≡ before.write_faults)
CountsStay Usage before after = (after.read_faults ≡ before.read_faults) × (after.write_faults ≡ before.write_faults)
CountsStay ReadFault before after = after.write_faults ≡ before.write_faults
CountsStay WriteFault before after = after.read_faults ≡ before.read_faults
CountsStay NoMemory before after = (after.read_faults ≡ before.read_faults) × (after.write_faults ≡ before.write_faults)

-- ---- what is left

-- a fact where the status says that nothing was written
abbrev pub WhereNotWritten : Status → Type 0 → Type 0
WhereNotWritten Done P = Unit {0}
WhereNotWritten Refused P = Unit {0}
WhereNotWritten Usage P = P
WhereNotWritten ReadFault P = P
WhereNotWritten WriteFault P = Unit {0}
WhereNotWritten NoMemory P = P

-- a fact where the status can't tell of a fault of a text
abbrev pub WhereNoFault : Status → Type 0 → Type 0
WhereNoFault Done P = P
WhereNoFault Refused P = Unit {0}
WhereNoFault Usage P = P
WhereNoFault ReadFault P = P
WhereNoFault WriteFault P = Unit {0}
WhereNoFault NoMemory P = P

-- a fact where the words ask for nothing that is read
abbrev pub WhereNotRead : Option Command → Type 0 → Type 0
WhereNotRead (Some (Run t)) P = Unit {0}
WhereNotRead (Some Check) P = Unit {0}
WhereNotRead (Some Convert) P = Unit {0}
WhereNotRead (Some (Plan t)) P = Unit {0}
WhereNotRead (Some Targets) P = P
WhereNotRead (Some (Many seed threads calls)) P = P
WhereNotRead None P = P

-- the statuses of a text that is a workload, of one that has a fault, and of one that isn't told
abbrev pub IsServed : Status → Type 0
IsServed status = (status ≡ Done) ⊎ (status ≡ NoMemory)

abbrev pub IsRefused : Status → Type 0
IsRefused status = (status ≡ Refused) ⊎ (status ≡ NoMemory)

abbrev pub IsEither : Status → Type 0
IsEither status = (status ≡ Done) ⊎ (status ≡ Refused) ⊎ (status ≡ NoMemory)

-- a command finishes by what it reads
abbrev pub Finishes : Bool → Option (List ℕ) → Status → Type 0
Finishes true left status = MatchOption left (IsEither status) (λ bytes. MatchResult (reading_of bytes) (λ work. IsServed status) (λ fault. IsRefused status))
Finishes false left status = IsServed status

-- where the words are a form and neither count of faults rose, the program finishes
abbrev pub Completes : Option Command → Outside → Outside → Status → Type 0
Completes (Some command) before after status =
    (Rose before.read_faults after.read_faults → ⊥) → (Rose before.write_faults after.write_faults → ⊥) → Finishes (reads command) before.left status
Completes None before after status = Unit {0}
