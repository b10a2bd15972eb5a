-- The rule of an arena, in four named parts. It holds between any two steps.
use Rattle.std.specs.Prelude.{◌≡◌, ◌≢◌, ℕ, ◌+◌, ◌*◌, ◌%◌, ◌<◌, ◌≤◌, ◌^◌, Bool, true, false, List, [], length, Option, Some, None, slice_index}
use mathlib.Core.Option.{some}
use lib.ListN.{get_elem?}
use Rattle.atomic_table.specs.Table.{State}
use Rattle.place_core.specs.declared.entry.Entry.{Entry}
use Rattle.place_core.specs.declared.shape.Shape.{Shape}
use Rattle.place_core.specs.declared.places.Place.TheVariants.{Lane, Parts as In}
use Rattle.place_core.specs.Shapes.{place_of, word_of, data_word, lock_word}
use Rattle.place_core.specs.PartValues.{AreParts}
use Rattle.place_core.specs.Passes.{Kept, NoneKept, NoteKept, PassKept, Known, Party, NoParty, NoteOf, PassOf, Passes}
use Rattle.seat_views.specs.declared.view.Opening.{Opening}
use Rattle.seat_views.specs.declared.view.Role.{Role}
use Rattle.seat_views.specs.declared.view.Role.TheVariants as role
use Rattle.seat_views.specs.declared.view.Beside.{Beside}
use Rattle.seat_views.specs.declared.view.Beside.TheVariants as beside
use Rattle.seat_views.specs.declared.view.Flight.{Flight}
use Rattle.seat_views.specs.declared.view.Flight.TheVariants.{Idle, Hold, Glance}
use Rattle.seat_views.specs.declared.view.Ended.{Ended}
use Rattle.seat_views.specs.declared.view.View.{View}
use Rattle.seat_views.specs.Limits.{last_stamp}
use Rattle.seat_views.specs.Places.{value_after, IsLegalIn}
use Rattle.seat_views.specs.PartLists.{look_up, got, HasAll}
use Rattle.seat_views.specs.Stamps.{entries_under}

-- the root's view at the start
abbrev pub first_view : Opening → View
first_view k = record { role = role.Pass; shape = k.shape; number = 0; seen = []; mine = []; trail = []; aside = 0; flight = Idle; beside = beside.Nobody; given = 0; ended = [] }

abbrev pub empty_shape : Shape
empty_shape = record { word_bits = 0; steps = record { swap = false; add = false; bits = false; order = false }; section = false; words = 0; locks = 0; objects = [] }

-- what is left of a view that was joined to another
abbrev pub spent_view : View
spent_view = record { role = role.Spent; shape = empty_shape; number = 0; seen = []; mine = []; trail = []; aside = 0; flight = Idle; beside = beside.Nobody; given = 0; ended = [] }

-- ---- the history

abbrev pub kept_of : Beside → Kept Entry
kept_of beside.Nobody = NoneKept
kept_of (beside.Pass n seen mine trail aside) = PassKept n seen mine
kept_of (beside.Note seen) = NoteKept seen

-- what the history is told of a view
abbrev pub known_of : View → Known Entry Ended
known_of v = record { number = v.number; seen = v.seen; mine = v.mine; given = v.given; ended = v.ended; beside = kept_of v.beside }

abbrev pub party_at : Role → Known Entry Ended → Party Entry Ended
party_at role.Pass k = PassOf k
party_at role.Note k = NoteOf k.seen
party_at role.Spent k = NoParty

abbrev pub party_of : View → Party Entry Ended
party_of v = party_at v.role (known_of v)

abbrev pub is_live : Role → Bool
is_live role.Pass = true
is_live role.Note = true
is_live role.Spent = false

abbrev pub caller_of : Entry → ℕ
caller_of x = x.caller

abbrev pub number_of_ended : Ended → ℕ
number_of_ended e = e.number

abbrev pub entries_of_ended : Ended → List Entry
entries_of_ended e = e.entries

-- one legal history, of which each view has seen a beginning; the passes, their numbers and their entries; and all views
-- that are not spent are of one shape
pub record History (S : Shape) (log : List Entry) (count : ℕ) (owner : ℕ → Option ℕ) (views : List View) : Type 0 where
  pub passes : Passes party_of (IsLegalIn S) caller_of number_of_ended entries_of_ended log count owner views
  pub shapes : (j : ℕ) (v : View) → get_elem? views j ≡ some v → is_live v.role ≡ true → v.shape ≡ S

-- ---- words of lanes

-- a word in which lanes lie is the sum of their values, so its bits of no object are 0; and word 0 is 0
pub record Lanes (S : Shape) (log : List Entry) (words : List ℕ) : Type 0 where
  pub sized : length words ≡ 1 + S.words + S.locks
  pub quiet : slice_index words 0 ≡ 0
  pub spelled : (o w s d : ℕ) → place_of S o ≡ Some (Lane w s d) → slice_index words (data_word w) ≡ word_of S log w

-- ---- locks and parts

-- a lock: the seat that holds it, its stamp, whether its holder has written, and for which object
pub record Lock : Type 0 where
  pub holder : Option ℕ
  pub stamp : ℕ
  pub dirty : Bool
  pub object : ℕ

abbrev pub held_or : Option ℕ → ℕ → ℕ
held_or None n = n
held_or (Some j) n = 1

-- what the lock's word is: 1 while a seat holds it, else its stamp
abbrev pub shown : Lock → ℕ
shown k = held_or k.holder k.stamp

-- part i of an object whose first data word is f
abbrev pub part_in : List ℕ → ℕ → ℕ → ℕ
part_in words f i = slice_index words (data_word (f + i))

-- what is known of n parts, from data word f on, is so in the words
abbrev pub Fits : List ℕ → ℕ → ℕ → List (ℕ × ℕ) → Type 0
Fits words f n parts = (i m : ℕ) → i < n → look_up i parts ≡ Some m → part_in words f i ≡ m

module _ (S : Shape) (log : List Entry) (locks : ℕ → Lock) (words : List ℕ) where
  -- seat j holds the lock of the object, which has parts. Before a write it has read parts as they are; after one it knows
  -- each part as it is, and the parts that it read hold the value
  pub record HoldFits (j o stamp : ℕ) (read : List (ℕ × ℕ)) (wrote : Bool) (now : List (ℕ × ℕ)) : Type 0 where
    pub lock : ℕ
    pub first : ℕ
    pub count : ℕ
    pub bits : ℕ
    pub place : place_of S o ≡ Some (In lock first count bits)
    pub mine : locks lock ≡ record { holder = Some j; stamp = stamp; dirty = wrote; object = o }
    pub reads : wrote ≡ false → Fits words first count read
    pub writes : wrote ≡ true → Fits words first count now × HasAll count now × AreParts bits count (got read) (value_after S log o)

  abbrev pub KnowsHold : ℕ → Flight → Type 0
  KnowsHold j Idle = Unit {0}
  KnowsHold j (Glance o stamp read) = Unit {0}
  KnowsHold j (Hold o stamp read wrote now) = HoldFits j o stamp read wrote now

  -- the stamp of a glance is even, below the last stamp, and at most the lock's; where they are one and the holder, if
  -- there is one, has written nothing, the glance has read the parts as they are
  pub record GlanceFits (o stamp : ℕ) (read : List (ℕ × ℕ)) : Type 0 where
    pub lock : ℕ
    pub first : ℕ
    pub count : ℕ
    pub bits : ℕ
    pub place : place_of S o ≡ Some (In lock first count bits)
    pub even : stamp % 2 ≡ 0
    pub below : stamp < last_stamp
    pub upto : stamp ≤ (locks lock).stamp
    pub reads : stamp ≡ (locks lock).stamp → (locks lock).dirty ≡ false → Fits words first count read

  abbrev pub KnowsGlance : Flight → Type 0
  KnowsGlance Idle = Unit {0}
  KnowsGlance (Hold o stamp read wrote now) = Unit {0}
  KnowsGlance (Glance o stamp read) = GlanceFits o stamp read

-- a call in flight holds lock l
abbrev pub HoldsUnder : Shape → ℕ → Flight → Type 0
HoldsUnder S l Idle = ⊥
HoldsUnder S l (Glance o stamp read) = ⊥
HoldsUnder S l (Hold o stamp read wrote now) = (f : ℕ) × (n : ℕ) × (b : ℕ) × (place_of S o ≡ Some (In l f n b))

-- the view of seat j holds lock l
pub record IsHolder (S : Shape) (l : ℕ) (views : List View) (j : ℕ) : Type 0 where
  pub view : View
  pub there : get_elem? views j ≡ some view
  pub under : HoldsUnder S l view.flight

-- a lock's word is 1 exactly where a view holds it, and else an even stamp, not below the first, and above it at most
-- by two for each entry on the lock's objects; a part is a number of its bits; parts that no holder has written hold the
-- value
pub record Parts (S : Shape) (first_stamp : ℕ) (log : List Entry) (locks : ℕ → Lock) (words : List ℕ) (views : List View) : Type 0 where
  pub locked : (l : ℕ) → l < S.locks → slice_index words (lock_word S l) ≡ shown (locks l)
  pub even : (l : ℕ) → l < S.locks → (locks l).stamp % 2 ≡ 0
  pub from_first : (l : ℕ) → l < S.locks → first_stamp ≤ (locks l).stamp
  pub upto_first : (l : ℕ) → l < S.locks → (locks l).stamp ≤ first_stamp + 2 * entries_under S l log
  pub clean : (l : ℕ) → (locks l).holder ≡ None → (locks l).dirty ≡ false
  pub holders : (l j : ℕ) → (locks l).holder ≡ Some j → IsHolder S l views j
  pub small : (o l f n b i : ℕ) → place_of S o ≡ Some (In l f n b) → i < n → part_in words f i < 2 ^ b
  pub spelled : (o l f n b : ℕ) → place_of S o ≡ Some (In l f n b) → ((locks l).dirty ≡ true → (locks l).object ≢ o) → AreParts b n (part_in words f) (value_after S log o)
  pub holds : (j : ℕ) (v : View) → get_elem? views j ≡ some v → KnowsHold S log locks words j v.flight

-- ---- glances

-- what a glance has read is so while its stamp stands
pub record Glances (S : Shape) (log : List Entry) (locks : ℕ → Lock) (words : List ℕ) (views : List View) : Type 0 where
  pub glances : (j : ℕ) (v : View) → get_elem? views j ≡ some v → KnowsGlance S log locks words v.flight

-- ---- the rule

pub record ArenaHolds (k : Opening) (s : State (Unit {0}) View) : Type 0 where
  pub log : List Entry
  pub count : ℕ
  pub owner : ℕ → Option ℕ
  pub locks : ℕ → Lock
  pub history : History k.shape log count owner s.views
  pub lanes : Lanes k.shape log s.words
  pub parts : Parts k.shape k.first_stamp log locks s.words s.views
  pub glances : Glances k.shape log locks s.words s.views
