-- What reading, describing and running come to, as statuses.
use Rattle.std.proofs.Common.{◌≡◌, ◌≤◌, inl, inr, true, ℕ, Bool, List, [], ◌∷◌, take, drop, Ok, Err, refl, sym, subst, ap, ◌∙◌, arith}
use Rattle.std.specs.Prelude.{Some, None, IfSome, Result}
use Rattle.std.specs.declared.option.Option.{Option}
use Rattle.std.proofs.lemmas.List.{drop_all}
use Rattle.target_desc.specs.declared.target.Target.{Target}
use Rattle.work_lang.specs.declared.meter.Meter.{Meter}
use Rattle.work_lang.specs.Streams.{most_read, ReadsAll, LosesFront}
use Rattle.work_lang.specs.Workload.{Workload}
use Rattle.work_lang.specs.Generated.{many_fits, many_of}
use Rattle.work_lang.specs.Reading.{Fault, reading_of}
use Rattle.top_call.specs.declared.input.Unread.{Unread}
use Rattle.top_call.specs.declared.input.Unread.TheVariants as unread
use Rattle.top_call.specs.declared.outcome.Ended.{Ended}
use Rattle.top_call.specs.declared.status.Status.{Status}
use Rattle.top_call.specs.declared.status.Status.TheVariants.{Done, Refused, Usage, ReadFault, WriteFault, NoMemory}
use Rattle.top_call.specs.declared.command.Command.{Command}
use Rattle.top_call.specs.declared.command.Command.TheVariants.{Run, Check, Convert, Plan, Targets, Many}
use Rattle.top_call.specs.declared.command.WordsFault.{WordsFault}
use Rattle.top_call.specs.declared.command.WordsFault.TheVariants as words
use Rattle.top_call.specs.declared.run_text.RunText.{RunText}
use Rattle.top_call.specs.declared.run_text.RunText.TheVariants as texts
use Rattle.top_call.specs.Commands.{ReadsWords, reads, described_by, described}
use Rattle.top_call.specs.Inputs.{ReadsText, ReadsInput}
use Rattle.top_call.specs.Texts.{on_target, IsTold, description_of, targets_lines}
use Rattle.top_call.specs.Outside.{Outside, outside}
use Rattle.top_call.specs.Writing.{WritesOwn, WritesTold, WritesFault, TellsUnread}
use Rattle.top_call.specs.Running.{IsRunOf, RunsWork, run_lines}
use Rattle.top_call.specs.Status.{fault_line, Taking, AllTaken, FrontTaken, WroteOwn, Described, ManyEnded, status_of, WhereNotWritten, WhereNotRead, SaysOf, Says, CountsStay}
use Rattle.top_call.proofs.ManyRuns.{many_told}
use Rattle.top_call.proofs.Readings.{reading_of-take, short_text}

-- ---- reading

read_is : (bytes text : List ℕ) (r : Result Workload Fault) → text ≡ take most_read bytes → reading_of text ≡ r → reading_of bytes ≡ r
read_is bytes text r is read = sym (reading_of-take bytes) ∙ ap reading_of (sym is) ∙ read

to_the_end : (old new : Option (List ℕ)) (text : List ℕ) (w : Workload) → IfSome old (λ bytes. (text ≡ take most_read bytes) × (new ≡ Some (drop most_read bytes)))
    → reading_of text ≡ Ok w → IfSome old (λ bytes. (reading_of bytes ≡ Ok w) × (new ≡ Some []))
to_the_end None new text w all read = tt
to_the_end (Some bytes) new text w all read =
    let whole = read_is bytes text (Ok w) all.0 read in
    (whole, all.1 ∙ ap Some (drop_all most_read bytes (omega (arith, short_text bytes w whole))))

up_to_fault : (old new : Option (List ℕ)) (text : List ℕ) (f : Fault) → IfSome old (λ bytes. (text ≡ take most_read bytes) × (new ≡ Some (drop most_read bytes)))
    → reading_of text ≡ Err f → IfSome old (λ bytes. (reading_of bytes ≡ Err f) × (new ≡ Some (drop most_read bytes)))
up_to_fault None new text f all read = tt
up_to_fault (Some bytes) new text f all read = (read_is bytes text (Err f) all.0 read, all.1)

module _ {S : Type 0} (left : S → Option (List ℕ)) (faults : S → ℕ) (s s' : S) where
  -- a text that was read to its end or past the longest one
  pub reads_input : (text : List ℕ) (r : Result Workload Unread) → ReadsAll left s s' text → faults s' ≡ faults s → ReadsText text r → ReadsInput left faults s s' r
  reads_input text (Ok w) all same read = (to_the_end (left s) (left s') text w all read, same)
  reads_input text (Err unread.Source) all same read = absurd read
  reads_input text (Err (unread.Text line word cause)) all same read = (up_to_fault (left s) (left s') text (record { line = line; word = word; cause = cause }) all read, same)
  reads_input text (Err unread.NoMemory) all same read = same

-- ---- describing and running what was read

module _ {S K : Type 0} (left : S → Option (List ℕ)) (read_faults : S → ℕ) (meter : S → Meter) (taken : K → Option (List ℕ)) (write_faults tries : K → ℕ) (whole : K → Bool) (s s' : S) (k k' : K) where
  abbrev seen_before : Outside
  seen_before = outside left read_faults meter taken write_faults tries whole s k

  abbrev seen_after : Outside
  seen_after = outside left read_faults meter taken write_faults tries whole s' k'

  -- a command that reads and describes wrote this of its own text
  own : (Wrote : Taking) (command : Command) (w : Workload) → reads command ≡ true → described_by command ≡ Some command → Described Wrote command seen_before seen_after → WroteOwn Wrote command seen_before seen_after None
  own Wrote (Run t) w r d described = absurd cc
  own Wrote Check w r d described = (refl, described)
  own Wrote Convert w r d described = (refl, described)
  own Wrote (Plan t) w r d described = (refl, described)
  own Wrote Targets w r d described = absurd cc
  own Wrote (Many seed threads calls) w r d described = absurd cc

  pub describes_work : (command : Command) (w : Workload) (status : Status) → reads command ≡ true → described_by command ≡ Some command → ReadsInput left read_faults s s' (Ok w)
      → WritesTold taken write_faults tries whole k k' command w status → SaysOf command seen_before seen_after status None
  describes_work command w Done r d input wrote = own AllTaken command w r d (record { work = w; told = wrote.0; read = input.0; is_told = wrote.1; written = (wrote.2.0, wrote.2.1) })
  describes_work command w Refused r d input wrote = absurd wrote
  describes_work command w Usage r d input wrote = absurd wrote
  describes_work command w ReadFault r d input wrote = absurd wrote
  describes_work command w WriteFault r d input wrote =
      (wrote.2.2, inl (own FrontTaken command w r d (record { work = w; told = wrote.0; read = input.0; is_told = wrote.1; written = (wrote.2.0, wrote.2.1) })))
  describes_work command w NoMemory r d input wrote = refl

  pub runs_work : (target : Option Target) (w : Workload) (status : Status) (ended : Option Ended) → ReadsInput left read_faults s s' (Ok w)
      → RunsWork taken write_faults tries whole k k' texts.Report (on_target target w) status ended → SaysOf (Run target) seen_before seen_after status ended
  runs_work target w Done None input ran = absurd ran
  runs_work target w Done (Some e) input ran = record { read = record { read = w; spelled = input.0; asked = ran.0.0 }; whole = ran.0.1; written = (ran.1.0, ran.1.1) }
  runs_work target w Refused ended input ran = absurd ran
  runs_work target w Usage ended input ran = absurd ran
  runs_work target w ReadFault ended input ran = absurd ran
  runs_work target w WriteFault None input ran = absurd ran
  runs_work target w WriteFault (Some e) input ran = (ran.1.2, inl (record { read = record { read = w; spelled = input.0; asked = ran.0.0 }; whole = ran.0.1; written = (ran.1.0, ran.1.1) }))
  runs_work target w NoMemory ended input ran = ran.0

  -- the line of a fault
  fault_told : (command : Command) (f : Fault) (status : Status) → reads command ≡ true → IfSome (left s) (λ bytes. (reading_of bytes ≡ Err f) × (left s' ≡ Some (drop most_read bytes)))
      → WritesFault taken write_faults tries whole k k' (fault_line f.line f.word f.cause ∷ []) status → SaysOf command seen_before seen_after status None
  fault_told command f Done r read told = absurd told
  fault_told command f Refused r read told = record { reads = r; fault = f; read = read; written = (told.0, told.1); none = refl }
  fault_told command f Usage r read told = absurd told
  fault_told command f ReadFault r read told = absurd told
  fault_told command f WriteFault r read told = (told.2, inr (record { reads = r; fault = f; read = read; written = (told.0, told.1); none = refl }))
  fault_told command f NoMemory r read told = absurd told

  pub tells_unread : (command : Command) (u : Unread) (status : Status) → reads command ≡ true → ReadsInput left read_faults s s' (Err u) → TellsUnread taken write_faults tries whole k k' u status
      → SaysOf command seen_before seen_after status None
  tells_unread command unread.Source status r input told = subst (λ st. SaysOf command seen_before seen_after st None) (sym told.0) (r, input, refl)
  tells_unread command (unread.Text line word cause) status r input told = fault_told command (record { line = line; word = word; cause = cause }) status r input.0 told
  tells_unread command unread.NoMemory status r input told = subst (λ st. SaysOf command seen_before seen_after st None) (sym told.0) refl

  -- ---- counts

  abbrev ReadStays : Type 0
  ReadStays = read_faults s' ≡ read_faults s

  pub own_counts : (lines : List (List ℕ)) (status : Status) → ReadStays → WritesOwn taken write_faults tries whole k k' lines status → CountsStay status seen_before seen_after
  own_counts lines Done same wrote = (same, wrote.2)
  own_counts lines Refused same wrote = absurd wrote
  own_counts lines Usage same wrote = absurd wrote
  own_counts lines ReadFault same wrote = absurd wrote
  own_counts lines WriteFault same wrote = same
  own_counts lines NoMemory same wrote = (same, ap write_faults wrote)

  pub run_counts : (text : RunText) (w : Workload) (status : Status) (ended : Option Ended) → ReadStays → RunsWork taken write_faults tries whole k k' text w status ended → CountsStay status seen_before seen_after
  run_counts text w Done None same ran = absurd ran
  run_counts text w Done (Some e) same ran = (same, ran.1.2)
  run_counts text w Refused ended same ran = absurd ran
  run_counts text w Usage ended same ran = absurd ran
  run_counts text w ReadFault ended same ran = absurd ran
  run_counts text w WriteFault ended same ran = same
  run_counts text w NoMemory ended same ran = (same, ap write_faults ran.1)

  line_counts : (lines : List (List ℕ)) (status : Status) → ReadStays → WritesFault taken write_faults tries whole k k' lines status → CountsStay status seen_before seen_after
  line_counts lines Done same told = absurd told
  line_counts lines Refused same told = (same, told.2)
  line_counts lines Usage same told = absurd told
  line_counts lines ReadFault same told = absurd told
  line_counts lines WriteFault same told = same
  line_counts lines NoMemory same told = absurd told

  pub unread_counts : (u : Unread) (status : Status) → ReadsInput left read_faults s s' (Err u) → TellsUnread taken write_faults tries whole k k' u status → CountsStay status seen_before seen_after
  unread_counts unread.Source status input told = subst (λ st. CountsStay st seen_before seen_after) (sym told.0) (ap write_faults told.1)
  unread_counts (unread.Text line word cause) status input told = line_counts (fault_line line word cause ∷ []) status input.1 told
  unread_counts unread.NoMemory status input told = subst (λ st. CountsStay st seen_before seen_after) (sym told.0) (input, ap write_faults told.1)

  -- the lines of a generated run are told by its numbers
  many_written : (Took : Taking) (seed threads calls : ℕ) (e : Ended) → many_fits threads calls ≡ true → IsRunOf (many_of seed threads calls) e
      → Took seen_before seen_after (run_lines (texts.Many seed threads calls) e.work e.root.seen) → ManyEnded Took seed threads calls seen_before seen_after e
  many_written Took seed threads calls e fits ran wrote = record {
    work = ran.0;
    whole = ran.1;
    written = subst (Took seen_before seen_after) (many_told seed threads calls e fits ran) wrote;
  }

  pub runs_many : (seed threads calls : ℕ) (status : Status) (ended : Option Ended) → many_fits threads calls ≡ true
      → RunsWork taken write_faults tries whole k k' (texts.Many seed threads calls) (many_of seed threads calls) status ended → SaysOf (Many seed threads calls) seen_before seen_after status ended
  runs_many seed threads calls Done None fits ran = absurd ran
  runs_many seed threads calls Done (Some e) fits ran = many_written AllTaken seed threads calls e fits ran.0 (ran.1.0, ran.1.1)
  runs_many seed threads calls Refused ended fits ran = absurd ran
  runs_many seed threads calls Usage ended fits ran = absurd ran
  runs_many seed threads calls ReadFault ended fits ran = absurd ran
  runs_many seed threads calls WriteFault None fits ran = absurd ran
  runs_many seed threads calls WriteFault (Some e) fits ran = (ran.1.2, inl (many_written FrontTaken seed threads calls e fits ran.0 (ran.1.0, ran.1.1)))
  runs_many seed threads calls NoMemory ended fits ran = ran.0

-- ---- what is left

module _ {K : Type 0} (taken : K → Option (List ℕ)) (faults tries : K → ℕ) (whole : K → Bool) (k k' : K) where
  -- its own lines are the description of the workload that it tells
  pub tells_work : (command : Command) (w told : Workload) (status : Status) → IsTold command w told → WritesOwn taken faults tries whole k k' (description_of command told) status
      → WritesTold taken faults tries whole k k' command w status
  tells_work command w told Done is wrote = (told, is, wrote)
  tells_work command w told Refused is wrote = absurd wrote
  tells_work command w told Usage is wrote = absurd wrote
  tells_work command w told ReadFault is wrote = absurd wrote
  tells_work command w told WriteFault is wrote = (told, is, wrote)
  tells_work command w told NoMemory is wrote = wrote

  pub own_unwritten : (lines : List (List ℕ)) (status : Status) → WritesOwn taken faults tries whole k k' lines status → WhereNotWritten status (k' ≡ k)
  own_unwritten lines Done wrote = tt
  own_unwritten lines Refused wrote = absurd wrote
  own_unwritten lines Usage wrote = absurd wrote
  own_unwritten lines ReadFault wrote = absurd wrote
  own_unwritten lines WriteFault wrote = tt
  own_unwritten lines NoMemory wrote = wrote

  pub run_unwritten : (text : RunText) (w : Workload) (status : Status) (ended : Option Ended) → RunsWork taken faults tries whole k k' text w status ended → WhereNotWritten status (k' ≡ k)
  run_unwritten text w Done ended ran = tt
  run_unwritten text w Refused ended ran = absurd ran
  run_unwritten text w Usage ended ran = absurd ran
  run_unwritten text w ReadFault ended ran = absurd ran
  run_unwritten text w WriteFault ended ran = tt
  run_unwritten text w NoMemory ended ran = ran.1

  line_unwritten : (lines : List (List ℕ)) (status : Status) → WritesFault taken faults tries whole k k' lines status → WhereNotWritten status (k' ≡ k)
  line_unwritten lines Done told = tt
  line_unwritten lines Refused told = tt
  line_unwritten lines Usage told = absurd told
  line_unwritten lines ReadFault told = absurd told
  line_unwritten lines WriteFault told = tt
  line_unwritten lines NoMemory told = absurd told

  pub unread_unwritten : (u : Unread) (status : Status) → TellsUnread taken faults tries whole k k' u status → WhereNotWritten status (k' ≡ k)
  unread_unwritten unread.Source status told = subst (λ st. WhereNotWritten st (k' ≡ k)) (sym told.0) told.1
  unread_unwritten (unread.Text line word cause) status told = line_unwritten (fault_line line word cause ∷ []) status told
  unread_unwritten unread.NoMemory status told = subst (λ st. WhereNotWritten st (k' ≡ k)) (sym told.0) told.1

-- ---- the targets

pub serves_targets : {S K : Type 0} (left : S → Option (List ℕ)) (read_faults : S → ℕ) (meter : S → Meter) (taken : K → Option (List ℕ)) (write_faults tries : K → ℕ) (whole : K → Bool) (s : S) (k k' : K) (status : Status)
    → WritesOwn taken write_faults tries whole k k' targets_lines status
    → SaysOf Targets (outside left read_faults meter taken write_faults tries whole s k) (outside left read_faults meter taken write_faults tries whole s k') status None
serves_targets left read_faults meter taken write_faults tries whole s k k' Done wrote = (refl, (wrote.0, wrote.1))
serves_targets left read_faults meter taken write_faults tries whole s k k' Refused wrote = absurd wrote
serves_targets left read_faults meter taken write_faults tries whole s k k' Usage wrote = absurd wrote
serves_targets left read_faults meter taken write_faults tries whole s k k' ReadFault wrote = absurd wrote
serves_targets left read_faults meter taken write_faults tries whole s k k' WriteFault wrote = (wrote.2, inl (refl, (wrote.0, wrote.1)))
serves_targets left read_faults meter taken write_faults tries whole s k k' NoMemory wrote = refl

-- ---- the top call

-- the command describes, and doesn't run
abbrev pub RunsNothing : Command → Type 0
RunsNothing command = ((t : Option Target) → command ≡ Run t → ⊥) × ((seed threads calls : ℕ) → command ≡ Many seed threads calls → ⊥)

-- a command that doesn't run is described as it is
pub described_says : (command : Command) (before after : Outside) (status : Status) → RunsNothing command
    → Says (described_by command) before after status None → SaysOf command before after status None
described_says (Run t) before after status other says = absurd (other.0 t refl)
described_says Check before after status other says = says
described_says Convert before after status other says = says
described_says (Plan t) before after status other says = says
described_says Targets before after status other says = says
described_says (Many seed threads calls) before after status other says = absurd (other.1 seed threads calls refl)

pub described_leaves : (command : Command) (P : Type 0) → RunsNothing command → WhereNotRead (described_by command) P → WhereNotRead (Some command) P
described_leaves (Run t) P other left = absurd (other.0 t refl)
described_leaves Check P other left = left
described_leaves Convert P other left = left
described_leaves (Plan t) P other left = left
described_leaves Targets P other left = left
described_leaves (Many seed threads calls) P other left = absurd (other.1 seed threads calls refl)

-- words that ask for nothing, or that memory was wanting for
pub refused_says : (asked : Option Command) (fault : WordsFault) (before after : Outside) (status : Status) → status ≡ status_of fault → ReadsWords asked (Err fault)
    → Says asked before after status None
refused_says asked fault before after status is read = subst (λ (st : Status). Says asked before after st None) (sym is) (by_fault asked fault read)
  where
    by_fault : (a : Option Command) (f : WordsFault) → ReadsWords a (Err f) → Says a before after (status_of f) None
    by_fault a words.Usage none = subst (λ (b : Option Command). Says b before after Usage None) (sym none) (inl refl, refl)
    by_fault None words.NoMemory none = (inr refl, refl)
    by_fault (Some command) words.NoMemory none = refl

-- a fault of the words is one where nothing is run too
pub described_refused : (asked : Option Command) (fault : WordsFault) → ReadsWords asked (Err fault) → ReadsWords (described asked) (Err fault)
described_refused asked words.Usage none = ap described none
described_refused asked words.NoMemory none = tt

-- a source that is as it was has lost no bytes
pub loses_nothing : {S : Type 0} (left : S → Option (List ℕ)) (s : S) → LosesFront left s s
loses_nothing left s = from (left s) refl
  where
    from : (bytes : Option (List ℕ)) → left s ≡ bytes → IfSome bytes (λ b. (n : ℕ) × (n ≤ most_read) × (left s ≡ Some (drop n b)))
    from None is = tt
    from (Some b) is = (0, omega arith, is)

pub read_nothing : (asked : Option Command) (P : Type 0) → P → WhereNotRead asked P
read_nothing None P left = left
read_nothing (Some (Run t)) P left = tt
read_nothing (Some Check) P left = tt
read_nothing (Some Convert) P left = tt
read_nothing (Some (Plan t)) P left = tt
read_nothing (Some Targets) P left = left
read_nothing (Some (Many seed threads calls)) P left = left
