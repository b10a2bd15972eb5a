-- The words of a line, taken one after another, and the fault at a word.
use Rattle.std.specs.Prelude.{ℕ, ◌+◌, Bool, List, [], ◌∷◌, Option, Some, None, Result, Ok, Err, if◌then◌else◌}
use Rattle.line_words.specs.Cursor.{Cursor}
use Rattle.op_table.specs.declared.value.ValueFault.{ValueFault}
use Rattle.op_table.specs.declared.value.ValueFault.TheVariants as value
use Rattle.work_lang.specs.declared.fault.Cause.{Cause}
use Rattle.work_lang.specs.declared.fault.Cause.TheVariants as causes
use Rattle.work_lang.specs.declared.fault.Slip.{Slip}

abbrev pub slip : {A : Type 0} → ℕ → Cause → Result A Slip
slip k why = Err (record { word = k; cause = why })

abbrev pub take_word : ℕ → List (List ℕ) → Result (List ℕ × Cursor) Slip
take_word k [] = slip (k + 1) causes.Missing
take_word k (w ∷ ws) = Ok (w, record { taken = k + 1; left = ws })

-- the next word
unfoldable pub word_at : Cursor → Result (List ℕ × Cursor) Slip
word_at c = take_word c.taken c.left

abbrev pub no_word : ℕ → List (List ℕ) → Result (Unit {0}) Slip
no_word k [] = Ok tt
no_word k (w ∷ ws) = slip (k + 1) causes.Extra

-- no further word
unfoldable pub end_at : Cursor → Result (Unit {0}) Slip
end_at c = no_word c.taken c.left

abbrev pub some_or : {A : Type 0} → ℕ → Cause → Option A → Result A Slip
some_or k why None = slip k why
some_or k why (Some x) = Ok x

-- what the last word must be
unfoldable pub need_at : {A : Type 0} → Cursor → Cause → Option A → Result A Slip
need_at c why found = some_or c.taken why found

abbrev pub value_or : {A : Type 0} → ℕ → Result A ValueFault → Result A Slip
value_or k (Ok x) = Ok x
value_or k (Err value.BadNumber) = slip k causes.BadNumber
value_or k (Err value.OutOfRange) = slip k causes.OutOfRange

-- the value that the last word must spell
unfoldable pub value_at : {A : Type 0} → Cursor → Result A ValueFault → Result A Slip
value_at c found = value_or c.taken found

-- what must hold at the last word
unfoldable pub check_at : Cursor → Cause → Bool → Result (Unit {0}) Slip
check_at c why holds = if holds then Ok tt else slip c.taken why
