-- Laws of texts that end too early, and of the line of a fault.
use Rattle.std.specs.Prelude.{ℕ, ◌≡◌, ◌≤◌, ◌<◌, ◌+◌, ◌-◌, ◌↔◌, ◌⊎◌, List, [], ◌∷◌, ◌++◌, length, map, take, slice_get, Some, Ok, Err}
use Rattle.line_words.specs.Text.{lines_of}
use Rattle.work_lang.specs.declared.fault.Cause.TheVariants as causes
use Rattle.work_lang.specs.declared.item.Item.{Item}
use Rattle.work_lang.specs.declared.item.Item.TheVariants as items
use Rattle.work_lang.specs.Limits.{most_bytes}
use Rattle.work_lang.specs.Streams.{text_of}
use Rattle.work_lang.specs.Workload.{Workload, IsWork}
use Rattle.work_lang.specs.Reading.{Fault, reading_of}
use Rattle.work_lang.specs.Spelling.{items_of, Spells}
use Rattle.work_lang.specs.Canonical.{canonical_lines}

-- ---- what is left open

-- how many threads and blocks are open after these items, where so many were open before them
abbrev pub open_from : ℕ → List Item → ℕ
open_from n [] = n
open_from n (items.Version version ∷ is) = open_from n is
open_from n (items.Target t ∷ is) = open_from n is
open_from n (items.Object d ∷ is) = open_from n is
open_from n (items.Thread ∷ is) = open_from (n + 1) is
open_from n (items.Repeat times ∷ is) = open_from (n + 1) is
open_from n (items.Call l ∷ is) = open_from n is
open_from n (items.End ∷ is) = open_from (n - 1) is

abbrev pub open_after : List Item → ℕ
open_after is = open_from 0 is

-- a thread or a block is open after this item, where so many are open before it. The `end` of a block is one with two
-- open before it: the thread, and in it the block
abbrev pub LeavesOpen : ℕ → Item → Type 0
LeavesOpen before (items.Version version) = ⊥
LeavesOpen before (items.Target t) = ⊥
LeavesOpen before (items.Object d) = ⊥
LeavesOpen before items.Thread = Unit {0}
LeavesOpen before (items.Repeat times) = Unit {0}
LeavesOpen before (items.Call l) = Unit {0}
LeavesOpen before items.End = before ≡ 2

-- what is open after some items of a workload is told by the last of them: a line `thread`, a line that opens a block,
-- a call line, or the `end` of a block
abbrev pub OpenByLastLine : Type 0
OpenByLastLine = (w : Workload) (k : ℕ) (i : Item) → IsWork w → slice_get (items_of w) k ≡ Some i → (1 ≤ open_after (take (k + 1) (items_of w))) ↔ LeavesOpen (open_after (take k (items_of w))) i

-- ---- cut texts

-- the first k canonical lines of a workload, as a text
abbrev pub cut_text : Workload → ℕ → List ℕ
cut_text w k = text_of (take k (canonical_lines w))

-- how the first k canonical lines of a workload are read
pub record IsReadCut (w : Workload) (k : ℕ) : Type 0 where
  pub no_target : k ≤ 1 → reading_of (cut_text w k) ≡ Err (record { line = k; word = 0; cause = causes.Missing })
  pub left_open : 2 ≤ k → 1 ≤ open_after (take k (items_of w)) → reading_of (cut_text w k) ≡ Err (record { line = k; word = 0; cause = causes.Unclosed })
  -- the workload of these lines
  pub whole : 2 ≤ k → open_after (take k (items_of w)) ≡ 0 → (v : Workload) × (items_of v ≡ take k (items_of w)) × (reading_of (cut_text w k) ≡ Ok v)

abbrev pub CutTextIsRead : Type 0
CutTextIsRead = (w : Workload) (k : ℕ) → IsWork w → k ≤ length (canonical_lines w) → length (cut_text w k) ≤ most_bytes → IsReadCut w k

-- ---- the line of a fault

-- a fault of the length of a text, or of its end: they are told of word 0
abbrev pub IsOfNoLine : Fault → Type 0
IsOfNoLine f = (f.word ≡ 0) × ((f.cause ≡ causes.TooLong) ⊎ ((f.cause ≡ causes.Missing) ⊎ (f.cause ≡ causes.Unclosed)))

abbrev pub first_lines : ℕ → List ℕ → List (List ℕ)
first_lines n text = take n (lines_of text)

-- the bytes of the first n lines, each with its end
abbrev pub first_bytes : ℕ → List ℕ → List ℕ
first_bytes n text = text_of (map (λ line. line ++ 10 ∷ []) (first_lines n text))

-- bytes that suffice to go on to the end of a workload: a version and a target, or two lines `end`
abbrev pub closing_bytes : ℕ
closing_bytes = 60

pub record IsOfItsLines (text : List ℕ) (f : Fault) : Type 0 where
  -- no text that has the same lines up to the fault's spells a workload
  pub final : (other : List ℕ) (w : Workload) → first_lines f.line other ≡ first_lines f.line text → Spells other w → ⊥
  -- fewer lines can be gone on with to a text that spells one, where its bytes leave room for what closes it
  pub least : (n : ℕ) → n < f.line → length (first_bytes n text) + closing_bytes ≤ most_bytes → (other : List ℕ) × (w : Workload) × (first_lines n other ≡ first_lines n text) × Spells other w

-- the line of any other fault is the least one at which no workload's text goes on as the text does
abbrev pub FaultIsOfItsLines : Type 0
FaultIsOfItsLines = (text : List ℕ) (f : Fault) → reading_of text ≡ Err f → (IsOfNoLine f → ⊥) → IsOfItsLines text f
