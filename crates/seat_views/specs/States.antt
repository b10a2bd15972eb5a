-- What contracts see of an arena, of a pass and of a note.
use Rattle.std.specs.Prelude.{◌≡◌, ℕ, ◌+◌, ◌<◌, ◌≤◌, List, [], ◌∷◌, ◌++◌}
use mathlib.Core.List.{IsPrefix}
use Rattle.atomic_table.specs.Seated.{TableId}
use Rattle.place_core.specs.declared.entry.Entry.{Entry}
use Rattle.place_core.specs.declared.shape.Shape.{Shape}
use Rattle.place_core.specs.Cells.{entries_by}
use Rattle.place_core.specs.Shapes.{word_of}
use Rattle.seat_views.specs.declared.view.Opening.{Opening}
use Rattle.seat_views.specs.declared.view.Item.{Item}
use Rattle.seat_views.specs.declared.view.Ended.{Ended}
use Rattle.seat_views.specs.declared.view.Flight.{Flight}
use Rattle.seat_views.specs.declared.view.Flight.TheVariants.{Idle}
use Rattle.seat_views.specs.declared.view.View.{View}
use Rattle.seat_views.specs.Limits.{most_passes}
use Rattle.seat_views.specs.Places.{IsLegalIn}
use Rattle.seat_views.specs.Steps.{IsRootSound}

-- which table it is, the shape, and the stamp that each lock began with
pub record ArenaState : Type 0 where
  pub id : TableId
  pub shape : Shape
  pub first_stamp : ℕ

-- a pass: its arena and shape, its number, what it has seen, its own entries, its steps, how many loads of word 0 it made
-- aside, which are no items of its steps, and the call in flight; of the root's pass besides the count of numbers given,
-- and the passes that were taken back. Each atomic step of a pass is an item of its steps, or is counted aside
pub record PassState : Type 0 where
  pub arena : TableId
  pub shape : Shape
  pub number : ℕ
  pub seen : List Entry
  pub mine : List Entry
  pub trail : List Item
  pub aside : ℕ
  pub flight : Flight
  pub given : ℕ
  pub ended : List Ended

pub record NoteState : Type 0 where
  pub arena : TableId
  pub shape : Shape
  pub seen : List Entry

abbrev pub arena_of : TableId → Opening → ArenaState
arena_of z k = record { id = z; shape = k.shape; first_stamp = k.first_stamp }

abbrev pub state_of : TableId → View → PassState
state_of z v = record { arena = z; shape = v.shape; number = v.number; seen = v.seen; mine = v.mine; trail = v.trail; aside = v.aside; flight = v.flight; given = v.given; ended = v.ended }

abbrev pub note_of : TableId → View → NoteState
note_of z v = record { arena = z; shape = v.shape; seen = v.seen }

-- the pass is of this arena
abbrev pub IsOf : ArenaState → PassState → Type 0
IsOf a p = (p.arena ≡ a.id) × (p.shape ≡ a.shape)

abbrev pub IsNoteOf : ArenaState → NoteState → Type 0
IsNoteOf a n = (n.arena ≡ a.id) × (n.shape ≡ a.shape)

-- what the type of a pass keeps: what it has seen is legal, its entries there are its own, and the root's pass knows all
-- callers, and of each pass that ended all entries
pub record IsKept (p : PassState) : Type 0 where
  pub legal : IsLegalIn p.shape p.seen
  pub own : entries_by p.seen p.number ≡ p.mine
  pub root : p.number ≡ 0 → IsRootSound p.seen p.given p.ended

-- a step appended the entry: what is seen begins with all that was, and ends with the entry
pub record Appends (p : PassState) (x : Entry) (i : Item) (q : PassState) : Type 0 where
  pub between : List Entry
  pub seen : q.seen ≡ (p.seen ++ between) ++ x ∷ []
  pub rest : q ≡ record p { seen = q.seen; mine = p.mine ++ x ∷ []; trail = p.trail ++ i ∷ []; flight = Idle }
  pub kept : IsKept q

-- a step appended the entry, and the data word before it was n
pub record AppendsAt (p : PassState) (x : Entry) (i : Item) (word n : ℕ) (q : PassState) : Type 0 where
  pub between : List Entry
  pub word_is : word_of p.shape (p.seen ++ between) word ≡ n
  pub seen : q.seen ≡ (p.seen ++ between) ++ x ∷ []
  pub rest : q ≡ record p { seen = q.seen; mine = p.mine ++ x ∷ []; trail = p.trail ++ i ∷ []; flight = Idle }
  pub kept : IsKept q

-- a step made no entry, and all that was made is seen: there the data word is n
pub record Looked (p : PassState) (i : Item) (word n : ℕ) (q : PassState) : Type 0 where
  pub between : List Entry
  pub seen : q.seen ≡ p.seen ++ between
  pub word_is : word_of q.shape q.seen word ≡ n
  pub rest : q ≡ record p { seen = q.seen; trail = p.trail ++ i ∷ []; flight = Idle }
  pub kept : IsKept q

-- a step made no entry, and the call in flight became f
pub record Moved (p : PassState) (i : Item) (f : Flight) (q : PassState) : Type 0 where
  pub now : q ≡ record p { trail = p.trail ++ i ∷ []; flight = f }
  pub kept : IsKept q

-- the pass of that number begins: what it has seen is what its root has
abbrev pub new_pass : PassState → PassState
new_pass p = record { arena = p.arena; shape = p.shape; number = p.given + 1; seen = p.seen; mine = []; trail = []; aside = 0; flight = Idle; given = 0; ended = [] }

-- the root gave a number, which was left, by one load of word 0
pub record Gives (p new q : PassState) : Type 0 where
  pub left : p.given < most_passes
  pub root : q ≡ record p { aside = p.aside + 1; given = p.given + 1 }
  pub pass : new ≡ new_pass p
  pub kept : IsKept q
  pub new_kept : IsKept new

-- the root had no number left, and stays
pub record GivesNone (p q : PassState) : Type 0 where
  pub full : most_passes ≤ p.given
  pub root : q ≡ p
  pub kept : IsKept q

-- the root took the pass e back, by two loads of word 0
pub record TakesBack (p e q : PassState) : Type 0 where
  pub old : IsPrefix p.seen q.seen
  pub other : IsPrefix e.seen q.seen
  pub rest : q ≡ record p { seen = q.seen; aside = p.aside + 2; ended = p.ended ++ record { number = e.number; entries = e.mine; trail = e.trail; aside = e.aside } ∷ [] }
  pub kept : IsKept q

-- the pass met a note, by two loads of word 0
pub record Meets (p : PassState) (n : NoteState) (q : PassState) : Type 0 where
  pub old : IsPrefix p.seen q.seen
  pub other : IsPrefix n.seen q.seen
  pub rest : q ≡ record p { seen = q.seen; aside = p.aside + 2 }
  pub kept : IsKept q

-- the pass gave a note, by one load of word 0, and stays else
pub record Notes (p : PassState) (n : NoteState) (q : PassState) : Type 0 where
  pub pass : q ≡ record p { aside = p.aside + 1 }
  pub note : n ≡ record { arena = p.arena; shape = p.shape; seen = p.seen }
  pub kept : IsKept q

-- the pass dropped a glance, by one load of word 0
pub record Drops (p q : PassState) : Type 0 where
  pub now : q ≡ record p { aside = p.aside + 1; flight = Idle }
  pub kept : IsKept q

-- the root's pass at the start
abbrev pub first_pass : ArenaState → PassState
first_pass a = record { arena = a.id; shape = a.shape; number = 0; seen = []; mine = []; trail = []; aside = 0; flight = Idle; given = 0; ended = [] }

-- an arena was opened: the history is empty, no number was given, and nothing is in flight
pub record Opens (S : Shape) (first : ℕ) (a : ArenaState) (p : PassState) : Type 0 where
  pub shape : a.shape ≡ S
  pub first_stamp : a.first_stamp ≡ first
  pub root : p ≡ first_pass a
  pub kept : IsKept p
