-- What reading a workload from a source comes to.
use Rattle.std.specs.Prelude.{◌≡◌, ℕ, List, [], drop, Ok, Err, Some, IfSome, Result}
use Rattle.std.specs.declared.option.Option.{Option}
use Rattle.work_lang.specs.Faults.{Rose}
use Rattle.work_lang.specs.Streams.{most_read}
use Rattle.work_lang.specs.Workload.{Workload}
use Rattle.work_lang.specs.Reading.{Fault, reading_of}
use Rattle.top_call.specs.declared.input.Unread.{Unread}
use Rattle.top_call.specs.declared.input.Unread.TheVariants as unread

-- a text that was in memory
abbrev pub ReadsText : List ℕ → Result Workload Unread → Type 0
ReadsText text (Ok w) = reading_of text ≡ Ok w
ReadsText text (Err unread.Source) = ⊥
ReadsText text (Err (unread.Text line word cause)) = reading_of text ≡ Err (record { line = line; word = word; cause = cause })
ReadsText text (Err unread.NoMemory) = Unit {0}

-- bytes that spell the workload were read to their end
abbrev pub WasSpelled : Option (List ℕ) → Option (List ℕ) → Workload → Type 0
WasSpelled old new w = IfSome old (λ bytes. (reading_of bytes ≡ Ok w) × (new ≡ Some []))

-- bytes that have this fault were read, and none past the first `most_read`
abbrev pub WasFaulty : Option (List ℕ) → Option (List ℕ) → Fault → Type 0
WasFaulty old new fault = IfSome old (λ bytes. (reading_of bytes ≡ Err fault) × (new ≡ Some (drop most_read bytes)))

-- a source, by the bytes that it has left and its count of faults: the count rises only where it failed
abbrev pub ReadsInput : {S : Type 0} → (S → Option (List ℕ)) → (S → ℕ) → S → S → Result Workload Unread → Type 0
ReadsInput left faults old new (Ok w) = WasSpelled (left old) (left new) w × (faults new ≡ faults old)
ReadsInput left faults old new (Err unread.Source) = Rose (faults old) (faults new)
ReadsInput left faults old new (Err (unread.Text line word cause)) =
    WasFaulty (left old) (left new) (record { line = line; word = word; cause = cause }) × (faults new ≡ faults old)
ReadsInput left faults old new (Err unread.NoMemory) = faults new ≡ faults old

-- a fact where no fault of a text was found
abbrev pub UnlessFaulty : Result Workload Unread → Type 0 → Type 0
UnlessFaulty (Ok w) P = P
UnlessFaulty (Err unread.Source) P = P
UnlessFaulty (Err (unread.Text line word cause)) P = Unit {0}
UnlessFaulty (Err unread.NoMemory) P = P
