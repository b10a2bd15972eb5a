-- Values and legal histories of objects that begin with given blocks.
use Rattle.std.specs.Prelude.{◌≡◌, ℕ, ◌<◌, List, [], ◌∷◌, ◌++◌, length, slice_index_or}
use Rattle.place_core.specs.Histories.{Each, made_by, value_from}
use Rattle.any_size.specs.declared.call.BlockEntry.{BlockEntry}
use Rattle.any_size.specs.Operations.{block_after, block_answer, OperandsFit}

-- what object o begins with; empty where there is none
abbrev pub start_at : List (List ℕ) → ℕ → List ℕ
start_at starts o = slice_index_or starts o []

-- how many bytes it has
abbrev pub size_of : List (List ℕ) → ℕ → ℕ
size_of starts o = length (start_at starts o)

-- who made the entry
abbrev pub caller_of : BlockEntry → ℕ
caller_of x = x.caller

-- which object it is on
abbrev pub object_of : BlockEntry → ℕ
object_of x = x.object

-- the value that an entry leaves
abbrev pub left_by : BlockEntry → List ℕ → List ℕ
left_by x v = block_after x.call v

-- the value of object o after a history
abbrev pub value_of : List (List ℕ) → List BlockEntry → ℕ → List ℕ
value_of starts H o = value_from object_of left_by o (start_at starts o) H

-- the entry may come after the history: its object is there, its operands have the object's length, and its reply is that of
-- its call at the object's value
pub record IsLawful (starts : List (List ℕ)) (G : List BlockEntry) (x : BlockEntry) : Type 0 where
  pub object : x.object < length starts
  pub operands : OperandsFit (size_of starts x.object) x.call
  pub reply : x.reply ≡ block_answer x.call (value_of starts G x.object)

-- each entry may come after those before it
abbrev pub IsLegal : List (List ℕ) → List BlockEntry → Type 0
IsLegal starts H = Each (IsLawful starts) H

-- the entries of a caller, in order
abbrev pub entries_by : List BlockEntry → ℕ → List BlockEntry
entries_by H c = made_by caller_of H c
