-- What writing a text comes to, as a status.
use Rattle.std.specs.Prelude.{◌≡◌, ℕ, Bool, true, List, [], ◌∷◌, length}
use Rattle.std.specs.declared.option.Option.{Option}
use Rattle.std.specs.Io.KnownBytes.{Appends}
use Rattle.work_lang.specs.Counts.{raised}
use Rattle.work_lang.specs.Faults.{Rose}
use Rattle.work_lang.specs.Streams.{text_of, AppendsFront, AppendsFirst}
use Rattle.work_lang.specs.Workload.{Workload}
use Rattle.top_call.specs.declared.command.Command.{Command}
use Rattle.top_call.specs.declared.input.Unread.{Unread}
use Rattle.top_call.specs.declared.input.Unread.TheVariants as unread
use Rattle.top_call.specs.declared.status.Status.{Status}
use Rattle.top_call.specs.declared.status.Status.TheVariants.{Done, Refused, Usage, ReadFault, WriteFault, NoMemory}
use Rattle.top_call.specs.Texts.{IsTold, description_of}
use Rattle.top_call.specs.Status.{fault_line}

-- all of some lines was taken, or a front of them at a fault, and the count of faults is as it was but there. A line is
-- tried once, where the sink takes it whole or not at all
abbrev pub Took : {K : Type 0} → (K → Option (List ℕ)) → (K → ℕ) → (K → ℕ) → (K → Bool) → K → K → List (List ℕ) → Type 0
Took taken faults tries whole old new lines = Appends (taken old) (taken new) (text_of lines) × (whole old ≡ true → tries new ≡ raised (tries old) (length lines)) × (faults new ≡ faults old)

abbrev pub TookFront : {K : Type 0} → (K → Option (List ℕ)) → (K → ℕ) → (K → ℕ) → (K → Bool) → K → K → List (List ℕ) → Type 0
TookFront taken faults tries whole old new lines = AppendsFront (taken old) (taken new) (text_of lines)
    × (whole old ≡ true → AppendsFirst (taken old) (taken new) (tries old) (tries new) lines) × Rose (faults old) (faults new)

-- the command's own lines
abbrev pub WritesOwn : {K : Type 0} → (K → Option (List ℕ)) → (K → ℕ) → (K → ℕ) → (K → Bool) → K → K → List (List ℕ) → Status → Type 0
WritesOwn taken faults tries whole old new lines Done = Took taken faults tries whole old new lines
WritesOwn taken faults tries whole old new lines Refused = ⊥
WritesOwn taken faults tries whole old new lines Usage = ⊥
WritesOwn taken faults tries whole old new lines ReadFault = ⊥
WritesOwn taken faults tries whole old new lines WriteFault = TookFront taken faults tries whole old new lines
WritesOwn taken faults tries whole old new lines NoMemory = new ≡ old

-- the command's description of the workload that was read
abbrev pub WritesTold : {K : Type 0} → (K → Option (List ℕ)) → (K → ℕ) → (K → ℕ) → (K → Bool) → K → K → Command → Workload → Status → Type 0
WritesTold taken faults tries whole old new command w Done = (told : Workload) × IsTold command w told × Took taken faults tries whole old new (description_of command told)
WritesTold taken faults tries whole old new command w Refused = ⊥
WritesTold taken faults tries whole old new command w Usage = ⊥
WritesTold taken faults tries whole old new command w ReadFault = ⊥
WritesTold taken faults tries whole old new command w WriteFault = (told : Workload) × IsTold command w told × TookFront taken faults tries whole old new (description_of command told)
WritesTold taken faults tries whole old new command w NoMemory = new ≡ old

-- the line of a fault
abbrev pub WritesFault : {K : Type 0} → (K → Option (List ℕ)) → (K → ℕ) → (K → ℕ) → (K → Bool) → K → K → List (List ℕ) → Status → Type 0
WritesFault taken faults tries whole old new lines Done = ⊥
WritesFault taken faults tries whole old new lines Refused = Took taken faults tries whole old new lines
WritesFault taken faults tries whole old new lines Usage = ⊥
WritesFault taken faults tries whole old new lines ReadFault = ⊥
WritesFault taken faults tries whole old new lines WriteFault = TookFront taken faults tries whole old new lines
WritesFault taken faults tries whole old new lines NoMemory = ⊥

-- why there is no workload
abbrev pub TellsUnread : {K : Type 0} → (K → Option (List ℕ)) → (K → ℕ) → (K → ℕ) → (K → Bool) → K → K → Unread → Status → Type 0
TellsUnread taken faults tries whole old new unread.Source status = (status ≡ ReadFault) × (new ≡ old)
TellsUnread taken faults tries whole old new (unread.Text line word cause) status = WritesFault taken faults tries whole old new (fault_line line word cause ∷ []) status
TellsUnread taken faults tries whole old new unread.NoMemory status = (status ≡ NoMemory) × (new ≡ old)
