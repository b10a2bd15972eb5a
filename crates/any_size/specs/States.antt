-- What contracts see of blocks and of a pass.
use Rattle.std.specs.Prelude.{◌≡◌, ℕ, ◌+◌, ◌<◌, ◌≤◌, List, [], ◌∷◌, ◌++◌, length}
use mathlib.Core.List.{IsPrefix}
use Rattle.atomic_table.specs.Seated.{TableId}
use Rattle.any_size.specs.declared.call.BlockEntry.{BlockEntry}
use Rattle.any_size.specs.declared.view.BlockOpening.{BlockOpening}
use Rattle.any_size.specs.declared.view.BlockItem.{BlockItem}
use Rattle.any_size.specs.declared.view.BlockEnded.{BlockEnded}
use Rattle.any_size.specs.declared.view.Hold.{Hold}
use Rattle.any_size.specs.declared.view.Hold.TheVariants.{Idle}
use Rattle.any_size.specs.declared.view.BlockView.{BlockView}
use Rattle.any_size.specs.Histories.{value_of, IsLegal, entries_by}
use Rattle.any_size.specs.Steps.{IsRootSound}

-- the most numbers that a root gives
abbrev pub most_passes : ℕ
most_passes = 65535

-- which table it is, what each object begins with, and how many locks there are
pub record BlocksState : Type 0 where
  pub id : TableId
  pub starts : List (List ℕ)
  pub locks : ℕ

-- a pass: its blocks, with their starts and number of locks, its number, what it has seen, its own entries, its steps, how
-- many loads of word 0 it made aside, and the call in flight; of the root's pass besides the count of numbers given, and
-- the passes that were taken back. Each atomic step of a pass is an item of its steps, or is counted aside
pub record BlockPassState : Type 0 where
  pub blocks : TableId
  pub starts : List (List ℕ)
  pub locks : ℕ
  pub number : ℕ
  pub seen : List BlockEntry
  pub mine : List BlockEntry
  pub trail : List BlockItem
  pub aside : ℕ
  pub hold : Hold
  pub given : ℕ
  pub ended : List BlockEnded

-- what is seen of a table, by its opening
abbrev pub blocks_of : TableId → BlockOpening → BlocksState
blocks_of z k = record { id = z; starts = k.starts.items; locks = k.locks }

-- what is seen of a pass, by its view
abbrev pub state_of : TableId → BlockView → BlockPassState
state_of z v = record { blocks = z; starts = v.starts; locks = v.locks; number = v.number; seen = v.seen; mine = v.mine; trail = v.trail; aside = v.aside; hold = v.hold; given = v.given; ended = v.ended }

-- the pass is of these blocks
pub record IsOf (b : BlocksState) (p : BlockPassState) : Type 0 where
  pub table : p.blocks ≡ b.id
  pub starts : p.starts ≡ b.starts
  pub locks : p.locks ≡ b.locks

-- what the type of a pass keeps: what it has seen is legal, its entries there are its own, and the root's pass knows all
-- callers, and of each pass that ended all entries
pub record IsKept (p : BlockPassState) : Type 0 where
  pub legal : IsLegal p.starts p.seen
  pub own : entries_by p.seen p.number ≡ p.mine
  pub root : p.number ≡ 0 → IsRootSound p.seen p.given p.ended

-- a step made no entry, and the call in flight became f
abbrev pub Moved : BlockPassState → BlockItem → Hold → BlockPassState → Type 0
Moved p i f q = q ≡ record p { trail = p.trail ++ i ∷ []; hold = f }

-- a step appended the entry: what is seen begins with all that was, and ends with the entry, before which v was the value
-- of its object
pub record Appends (p : BlockPassState) (x : BlockEntry) (i : BlockItem) (v : List ℕ) (q : BlockPassState) : Type 0 where
  pub between : List BlockEntry
  pub now : q ≡ record p { seen = (p.seen ++ between) ++ x ∷ []; mine = p.mine ++ x ∷ []; trail = p.trail ++ i ∷ []; hold = Idle }
  pub value : value_of p.starts (p.seen ++ between) x.object ≡ v
  pub kept : IsKept q

-- ---- passes given and taken back

-- the pass of that number begins: what it has seen is what its root has
abbrev pub new_pass : BlockPassState → BlockPassState
new_pass p = record { blocks = p.blocks; starts = p.starts; locks = p.locks; number = p.given + 1; seen = p.seen; mine = []; trail = []; aside = 0; hold = Idle; given = 0; ended = [] }

-- the root gave a number, which was left, by one load of word 0
pub record Gives (p new q : BlockPassState) : Type 0 where
  pub left : p.given < most_passes
  pub root : q ≡ record p { aside = p.aside + 1; given = p.given + 1 }
  pub pass : new ≡ new_pass p
  pub kept : IsKept q
  pub new_kept : IsKept new

-- the root had no number left, and stays
pub record GivesNone (p q : BlockPassState) : Type 0 where
  pub full : most_passes ≤ p.given
  pub root : q ≡ p
  pub kept : IsKept q

-- the root took the pass e back, by two loads of word 0
pub record TakesBack (p e q : BlockPassState) : Type 0 where
  pub old : IsPrefix p.seen q.seen
  pub other : IsPrefix e.seen q.seen
  pub rest : q ≡ record p { seen = q.seen; aside = p.aside + 2; ended = p.ended ++ record { number = e.number; entries = e.mine; trail = e.trail; aside = e.aside } ∷ [] }
  pub kept : IsKept q

-- the root's pass at the start
abbrev pub first_pass : BlocksState → BlockPassState
first_pass b = record { blocks = b.id; starts = b.starts; locks = b.locks; number = 0; seen = []; mine = []; trail = []; aside = 0; hold = Idle; given = 0; ended = [] }

-- blocks were opened: the history is empty, no number was given, and nothing is in flight
pub record Opens (starts : List (List ℕ)) (locks : ℕ) (b : BlocksState) (p : BlockPassState) : Type 0 where
  pub starts_are : b.starts ≡ starts
  pub locks_are : b.locks ≡ locks
  pub root : p ≡ first_pass b
  pub kept : IsKept p
