-- The rule of blocks. It holds between any two steps.
use Rattle.std.specs.Prelude.{◌≡◌, ◌≢◌, ℕ, ◌+◌, ◌<◌, Bool, true, false, List, [], ◌∷◌, ◌++◌, length, take, drop, Option, Some, None, slice_index}
use mathlib.Core.Option.{some}
use lib.ListN.{get_elem?}
use Rattle.atomic_table.specs.Table.{State}
use Rattle.place_core.specs.Passes.{Kept, NoneKept, PassKept, Known, Party, NoParty, PassOf, Passes}
use Rattle.any_size.specs.declared.call.BlockEntry.{BlockEntry}
use Rattle.any_size.specs.declared.view.BlockOpening.{BlockOpening}
use Rattle.any_size.specs.declared.view.BlockRole.{BlockRole}
use Rattle.any_size.specs.declared.view.BlockRole.TheVariants as role
use Rattle.any_size.specs.declared.view.Beside.{Beside}
use Rattle.any_size.specs.declared.view.Beside.TheVariants as beside
use Rattle.any_size.specs.declared.view.Hold.{Hold}
use Rattle.any_size.specs.declared.view.Hold.TheVariants.{Idle, Held}
use Rattle.any_size.specs.declared.view.BlockEnded.{BlockEnded}
use Rattle.any_size.specs.declared.view.BlockView.{BlockView}
use Rattle.any_size.specs.Bytes.{Spells}
use Rattle.any_size.specs.Histories.{size_of, value_of, IsLegal, caller_of}
use Rattle.any_size.specs.Layout.{count_of, lock_of, lock_word, first_word, words_at, table_size}

-- the root's view at the start
abbrev pub first_view : BlockOpening → BlockView
first_view k = record { role = role.Pass; starts = k.starts.items; locks = k.locks; number = 0; seen = []; mine = []; trail = []; aside = 0; hold = Idle; beside = beside.Nobody; given = 0; ended = [] }

-- what is left of a view that was joined to another
abbrev pub spent_view : BlockView
spent_view = record { role = role.Spent; starts = []; locks = 0; number = 0; seen = []; mine = []; trail = []; aside = 0; hold = Idle; beside = beside.Nobody; given = 0; ended = [] }

-- ---- the history

-- the pass that is kept beside a view, if there is one
abbrev pub kept_of : Beside → Kept BlockEntry
kept_of beside.Nobody = NoneKept
kept_of (beside.Pass n seen mine trail aside) = PassKept n seen mine

-- what the history is told of a view
abbrev pub known_of : BlockView → Known BlockEntry BlockEnded
known_of v = record { number = v.number; seen = v.seen; mine = v.mine; given = v.given; ended = v.ended; beside = kept_of v.beside }

-- who takes part in the numbering, by the role of its seat
abbrev pub party_at : BlockRole → Known BlockEntry BlockEnded → Party BlockEntry BlockEnded
party_at role.Pass k = PassOf k
party_at role.Spent k = NoParty

-- the same of a view
abbrev pub party_of : BlockView → Party BlockEntry BlockEnded
party_of v = party_at v.role (known_of v)

-- the seat is that of a pass that goes on
abbrev pub is_live : BlockRole → Bool
is_live role.Pass = true
is_live role.Spent = false

-- the number of a pass that ended
abbrev pub number_of_ended : BlockEnded → ℕ
number_of_ended e = e.number

-- its entries
abbrev pub entries_of_ended : BlockEnded → List BlockEntry
entries_of_ended e = e.entries

-- the view carries these starts and this number of locks
abbrev pub Carries : List (List ℕ) → ℕ → BlockView → Type 0
Carries starts locks v = (v.starts ≡ starts) × (v.locks ≡ locks)

-- one legal history, of which each view has seen a beginning; the passes, their numbers and their entries; and all views
-- that are not spent carry the same starts and number of locks
pub record History (starts : List (List ℕ)) (locks : ℕ) (log : List BlockEntry) (count : ℕ) (owner : ℕ → Option ℕ) (views : List BlockView) : Type 0 where
  pub passes : Passes party_of (IsLegal starts) caller_of number_of_ended entries_of_ended log count owner views
  pub carried : (j : ℕ) (v : BlockView) → get_elem? views j ≡ some v → is_live v.role ≡ true → Carries starts locks v

-- ---- locks and words

-- a lock: the seat that holds it, and the object that its holder has written
pub record Lock : Type 0 where
  pub holder : Option ℕ
  pub written : Option ℕ

-- what the lock's word is: 1 while a seat holds it, else 0
abbrev pub shown : Option ℕ → ℕ
shown None = 0
shown (Some j) = 1

-- the object that was written, where a word was
abbrev pub written_of : ℕ → List ℕ → Option ℕ
written_of o [] = None
written_of o (x ∷ xs) = Some o

-- a word was written
abbrev pub IsWritten : List ℕ → Type 0
IsWritten [] = ⊥
IsWritten (x ∷ xs) = Unit {0}

-- the words as they are: those that were written, and then those that were read
abbrev pub held_now : List ℕ → List ℕ → List ℕ
held_now read put = put ++ drop (length put) read

-- the words of object o
abbrev pub object_words : List (List ℕ) → ℕ → List ℕ → ℕ → List ℕ
object_words starts locks words o = words_at words (first_word starts locks o) (count_of starts o)

module _ (starts : List (List ℕ)) (locks : ℕ) (log : List BlockEntry) (state : ℕ → Lock) (words : List ℕ) where
  -- seat j holds the object's lock. It knows the words that it read as they are, and after it has written each word; what
  -- it has read is then the value
  pub record HoldFits (j o : ℕ) (read put : List ℕ) : Type 0 where
    pub inside : o < length starts
    pub mine : state (lock_of locks o) ≡ record { holder = Some j; written = written_of o put }
    pub now : take (length read) (object_words starts locks words o) ≡ held_now read put
    pub whole : IsWritten put → (length read ≡ count_of starts o) × Spells (size_of starts o) read (value_of starts log o)

  abbrev pub KnowsHold : ℕ → Hold → Type 0
  KnowsHold j Idle = Unit {0}
  KnowsHold j (Held o read put) = HoldFits j o read put

-- a call in flight holds lock l
abbrev pub HoldsUnder : ℕ → ℕ → Hold → Type 0
HoldsUnder locks l Idle = ⊥
HoldsUnder locks l (Held o read put) = lock_of locks o ≡ l

-- the view of seat j holds lock l
pub record IsHolder (locks l : ℕ) (views : List BlockView) (j : ℕ) : Type 0 where
  pub view : BlockView
  pub there : get_elem? views j ≡ some view
  pub under : HoldsUnder locks l view.hold

-- a lock's word is 1 exactly where one view holds it, and else 0; the words of an object that no holder has written spell
-- its value, with unused bytes 0
pub record Words (starts : List (List ℕ)) (locks : ℕ) (log : List BlockEntry) (state : ℕ → Lock) (words : List ℕ) (views : List BlockView) : Type 0 where
  pub sized : length words ≡ table_size starts locks
  pub quiet : slice_index words 0 ≡ 0
  pub locked : (l : ℕ) → l < locks → slice_index words (lock_word l) ≡ shown (state l).holder
  pub clean : (l : ℕ) → (state l).holder ≡ None → (state l).written ≡ None
  pub holders : (l j : ℕ) → (state l).holder ≡ Some j → IsHolder locks l views j
  pub spelled : (o : ℕ) → o < length starts → (state (lock_of locks o)).written ≢ Some o → Spells (size_of starts o) (object_words starts locks words o) (value_of starts log o)
  pub holds : (j : ℕ) (v : BlockView) → get_elem? views j ≡ some v → KnowsHold starts locks log state words j v.hold

-- ---- the rule

-- the rule: one list of entries of which every view has seen a beginning, a number for each pass, a state for each lock, and the words as these say
pub record BlocksHold (starts : List (List ℕ)) (locks : ℕ) (s : State (Unit {0}) BlockView) : Type 0 where
  pub log : List BlockEntry
  pub count : ℕ
  pub owner : ℕ → Option ℕ
  pub state : ℕ → Lock
  pub history : History starts locks log count owner s.views
  pub words : Words starts locks log state s.words s.views

-- the rule of a table that was opened so
abbrev pub rule_of : BlockOpening → State (Unit {0}) BlockView → Type 0
rule_of k s = BlocksHold k.starts.items k.locks s
