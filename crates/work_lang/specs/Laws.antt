-- Laws of texts, as the module `laws` proves them.
use Rattle.std.specs.Prelude.{ℕ, ◌≡◌, ◌≤◌, ◌↔◌, ◌⊎◌, List, length, Ok, Err}
use Rattle.work_lang.specs.Limits.{most_bytes}
use Rattle.work_lang.specs.Workload.{Workload, IsWork}
use Rattle.work_lang.specs.Reading.{Fault, reading_of}
use Rattle.work_lang.specs.Spelling.{Spells}
use Rattle.work_lang.specs.Canonical.{canonical_text}

-- a workload is read exactly where the text spells it
abbrev pub ReadingIsSpelling : Type 0
ReadingIsSpelling = (text : List ℕ) (w : Workload) → (reading_of text ≡ Ok w) ↔ Spells text w

-- a text spells one workload at most
abbrev pub SpellsOne : Type 0
SpellsOne = (text : List ℕ) (w v : Workload) → Spells text w → Spells text v → w ≡ v

-- a text with a fault spells none
abbrev pub FaultSpellsNone : Type 0
FaultSpellsNone = (text : List ℕ) (w : Workload) (f : Fault) → reading_of text ≡ Err f → Spells text w → ⊥

-- a canonical text that is not too long is read as its workload
abbrev pub CanonicalIsRead : Type 0
CanonicalIsRead = (w : Workload) → IsWork w → length (canonical_text w) ≤ most_bytes → reading_of (canonical_text w) ≡ Ok w

-- a text is read as the one workload that it spells, or it has a fault and spells none
abbrev pub HasOneReading : List ℕ → Type 0
HasOneReading text = ((w : Workload) × (reading_of text ≡ Ok w) × Spells text w × ((v : Workload) → Spells text v → v ≡ w))
    ⊎ ((f : Fault) × (reading_of text ≡ Err f) × ((w : Workload) → Spells text w → ⊥))

abbrev pub EachTextHasOneReading : Type 0
EachTextHasOneReading = (text : List ℕ) → HasOneReading text
