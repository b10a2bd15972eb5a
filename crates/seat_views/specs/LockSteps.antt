-- What the steps on locks and parts tell, and what the code keeps of a call in flight.
use Rattle.std.specs.Prelude.{◌≡◌, ◌≢◌, ◌%◌, ◌<◌, ◌^◌, ℕ, ◌+◌, ◌==◌, Bool, true, false, if◌then◌else◌, List, [], ◌∷◌, Some, slice_index}
use Rattle.atomic_table.specs.Table.{Me, Step}
use Rattle.op_table.specs.declared.call.Call.{Call}
use Rattle.op_table.specs.declared.call.Call.TheVariants.{Load}
use Rattle.op_table.specs.declared.call.Reply.TheVariants.{Value}
use Rattle.op_table.specs.Kind.{values_of}
use Rattle.op_table.specs.Call.{after_of, answer_of}
use Rattle.place_core.specs.declared.shape.Shape.{Shape}
use Rattle.place_core.specs.Shapes.{place_of, kind_of}
use Rattle.place_core.specs.PartValues.{joined, AreParts}
use Rattle.seat_views.specs.declared.hand.Hand.{Hand}
use Rattle.seat_views.specs.declared.view.StepKind.{StepKind}
use Rattle.seat_views.specs.declared.view.StepKind.TheVariants as kind
use Rattle.seat_views.specs.declared.view.Role.TheVariants as role
use Rattle.seat_views.specs.declared.view.Flight.{Flight}
use Rattle.seat_views.specs.declared.view.Flight.TheVariants.{Idle, Hold, Glance}
use Rattle.seat_views.specs.declared.view.View.{View}
use Rattle.seat_views.specs.Limits.{last_stamp}
use Rattle.seat_views.specs.Places.{lock_in, parts_of}
use Rattle.seat_views.specs.Stamps.{IsStampIn}
use Rattle.seat_views.specs.PartLists.{look_up, got, HasAll}
use Rattle.seat_views.specs.Steps.{Asked, entry, item, moved, Grows, GrowsFrom}

-- ---- the call in flight after a step

-- a take that found n holds the lock, unless it found 1
abbrev pub taken_flight : ℕ → ℕ → Flight
taken_flight o n = if n == 1 then Idle else Hold o n [] false []

-- a stamp n begins a glance, unless it is 1 or the last
abbrev pub stamped_flight : ℕ → ℕ → Flight
stamped_flight o n = if n == 1 then Idle else (if n == last_stamp then Idle else Glance o n [])

-- part i was read
abbrev pub read_more : Flight → ℕ → ℕ → Flight
read_more Idle i n = Idle
read_more (Hold o stamp read wrote now) i n = Hold o stamp ((i, n) ∷ read) wrote now
read_more (Glance o stamp read) i n = Glance o stamp ((i, n) ∷ read)

-- the parts as they are: those that were read, until one was written
abbrev pub parts_now : List (ℕ × ℕ) → Bool → List (ℕ × ℕ) → List (ℕ × ℕ)
parts_now read wrote now = if wrote then now else read

-- part i was written
abbrev pub write_more : Flight → ℕ → ℕ → Flight
write_more Idle i n = Idle
write_more (Glance o stamp read) i n = Idle
write_more (Hold o stamp read wrote now) i n = Hold o stamp read true ((i, n) ∷ parts_now read wrote now)

-- ---- what is read from the call in flight

abbrev pub read_in : Flight → List (ℕ × ℕ)
read_in Idle = []
read_in (Hold o stamp read wrote now) = read
read_in (Glance o stamp read) = read

-- the object that is held or glanced at
abbrev pub object_in : Flight → ℕ
object_in Idle = 0
object_in (Hold o stamp read wrote now) = o
object_in (Glance o stamp read) = o

abbrev pub stamp_in : Flight → ℕ
stamp_in Idle = 0
stamp_in (Hold o stamp read wrote now) = stamp
stamp_in (Glance o stamp read) = stamp

-- the stamp that a release stores: the old one where nothing was written; after a write two more, or the last again
abbrev pub released : Bool → ℕ → ℕ
released wrote stamp = if wrote then (if stamp == last_stamp then stamp else stamp + 2) else stamp

abbrev pub stored_by : Flight → ℕ
stored_by Idle = 0
stored_by (Hold o stamp read wrote now) = released wrote stamp
stored_by (Glance o stamp read) = 0

-- the number whose parts were read
abbrev pub value_read : Shape → ℕ → Flight → ℕ
value_read S o f = joined S.word_bits (got (read_in f)) (parts_of S o)

-- ---- conditions

-- the object's lock is held, and nothing was written
abbrev pub HoldsClean : ℕ → Flight → Type 0
HoldsClean o Idle = ⊥
HoldsClean o (Glance p stamp read) = ⊥
HoldsClean o (Hold p stamp read wrote now) = (p ≡ o) × (wrote ≡ false)

-- the object's lock is held, and all of its n parts were read
abbrev pub HoldsRead : ℕ → ℕ → Flight → Type 0
HoldsRead o n Idle = ⊥
HoldsRead o n (Glance p stamp read) = ⊥
HoldsRead o n (Hold p stamp read wrote now) = (p ≡ o) × HasAll n read

-- besides, the parts as they are hold what the call leaves of the value that was read
abbrev pub MayRelease : Shape → ℕ → Call → Flight → Type 0
MayRelease S o call Idle = ⊥
MayRelease S o call (Glance p stamp read) = ⊥
MayRelease S o call (Hold p stamp read wrote now) = (p ≡ o) × HasAll (parts_of S o) read
    × AreParts S.word_bits (parts_of S o) (got (parts_now read wrote now)) (after_of (kind_of S o) call (joined S.word_bits (got read) (parts_of S o)))

-- the object is glanced at
abbrev pub GlancesAt : ℕ → Flight → Type 0
GlancesAt o Idle = ⊥
GlancesAt o (Hold p stamp read wrote now) = ⊥
GlancesAt o (Glance p stamp read) = p ≡ o

-- and all of its n parts were read
abbrev pub GlancesRead : ℕ → ℕ → Flight → Type 0
GlancesRead o n Idle = ⊥
GlancesRead o n (Hold p stamp read wrote now) = ⊥
GlancesRead o n (Glance p stamp read) = (p ≡ o) × HasAll n read

-- a glance is in flight
abbrev pub IsGlance : Flight → Type 0
IsGlance Idle = ⊥
IsGlance (Hold p stamp read wrote now) = ⊥
IsGlance (Glance p stamp read) = Unit {0}

-- ---- what steps tell

abbrev pub Told : Type 1
Told = Step (Unit {0}) → Me (Unit {0}) View → ℕ → Me (Unit {0}) View → Type 0

-- a number other than 1 that is found in a pass's step is a stamp of the object's lock; the first is the one asked with
abbrev pub StampTold : Asked → View → ℕ → Type 0
StampTold a v n = n ≢ 1 → v.role ≡ role.Pass
    → IsStampIn v.shape (lock_in (place_of v.shape a.object)) a.stamp v.number v.given v.seen n

-- a number other than 1 that a take finds is even
abbrev pub take_tells : Asked → ℕ → Me (Unit {0}) View → ℕ → Me (Unit {0}) View → Type 0
take_tells a word m n w = (w.1 ≡ m.1) × (w.0 ≡ moved m.0 (item word kind.Take n) (taken_flight a.object n))
    × (n ≢ 1 → n % 2 ≡ 0) × StampTold a m.0 n

-- a part is a number of a part's bits
abbrev pub read_tells : StepKind → Asked → ℕ → Me (Unit {0}) View → ℕ → Me (Unit {0}) View → Type 0
read_tells k a word m n w = (w.1 ≡ m.1) × (w.0 ≡ moved m.0 (item word k n) (read_more m.0.flight a.part n)) × (n < 2 ^ m.0.shape.word_bits)

-- under the lock it is a part of a value of the kind, and so no greater than one
abbrev pub held_tells : Asked → ℕ → Me (Unit {0}) View → ℕ → Me (Unit {0}) View → Type 0
held_tells a word m n w = (w.1 ≡ m.1) × (w.0 ≡ moved m.0 (item word kind.Held n) (read_more m.0.flight a.part n)) × (n < 2 ^ m.0.shape.word_bits)
    × (n < values_of (kind_of m.0.shape (object_in m.0.flight)))

abbrev pub put_tells : Asked → ℕ → Me (Unit {0}) View → ℕ → Me (Unit {0}) View → Type 0
put_tells a word m n w = (w.1 ≡ m.1) × (w.0 ≡ moved m.0 (item word kind.Put n) (write_more m.0.flight a.part n))

-- the value that was read is the object's before the entry, and one of the kind
abbrev pub release_tells : Asked → ℕ → Me (Unit {0}) View → ℕ → Me (Unit {0}) View → Type 0
release_tells a word m n w = (w.1 ≡ m.1)
    × GrowsFrom m.0 (entry m.0.number a.object a.call (answer_of a.kind a.call a.value)) (item word kind.Release n) a.value w.0
    × (a.value < values_of a.kind)

abbrev pub stamp_tells : Asked → ℕ → Me (Unit {0}) View → ℕ → Me (Unit {0}) View → Type 0
stamp_tells a word m n w = (w.1 ≡ m.1) × (w.0 ≡ moved m.0 (item word kind.Stamp n) (stamped_flight a.object n))
    × StampTold a m.0 n

abbrev pub match_tells : Asked → ℕ → Me (Unit {0}) View → ℕ → Me (Unit {0}) View → Type 0
match_tells a word m n w = (w.1 ≡ m.1) × (n ≡ a.stamp → Grows m.0 (entry m.0.number a.object Load (Value a.value)) (item word kind.Match n) w.0)
    × (n ≢ a.stamp → w.0 ≡ moved m.0 (item word kind.Match n) Idle)

abbrev pub take_told : Asked → Told
take_told a st m n w = take_tells a st.word m n w

abbrev pub held_told : Asked → Told
held_told a st m n w = held_tells a st.word m n w

abbrev pub put_told : Asked → Told
put_told a st m n w = put_tells a st.word m n w

abbrev pub release_told : Asked → Told
release_told a st m n w = release_tells a st.word m n w

abbrev pub stamp_told : Asked → Told
stamp_told a st m n w = stamp_tells a st.word m n w

abbrev pub part_told : Asked → Told
part_told a st m n w = read_tells kind.Part a st.word m n w

abbrev pub match_told : Asked → Told
match_told a st m n w = match_tells a st.word m n w

-- ---- what the code keeps of a call in flight

pub record HandReads (bits : ℕ) (stamp : ℕ) (read : List (ℕ × ℕ)) (h : Hand) : Type 0 where
  pub stamp_is : h.stamp ≡ stamp
  pub reads : (i n : ℕ) → look_up i read ≡ Some n → slice_index h.read i ≡ n
  pub small : (i : ℕ) → slice_index h.read i < 2 ^ bits

abbrev pub HandFits : ℕ → Flight → Hand → Type 0
HandFits bits Idle h = Unit {0}
HandFits bits (Hold o stamp read wrote now) h = HandReads bits stamp read h × (h.wrote ≡ wrote) × (stamp % 2 ≡ 0)
HandFits bits (Glance o stamp read) h = HandReads bits stamp read h
