-- What each step on a lane's word tells its caller.
use Rattle.std.specs.Prelude.{◌≢◌, ◌≡◌, ℕ, ◌-◌, ◌/◌, ◌%◌, ◌^◌, true, false, List, [], ◌∷◌, ◌++◌, Option, Some, None}
use Rattle.atomic_table.specs.Table.{Me, Step}
use Rattle.op_table.specs.declared.kind.Kind.{Kind}
use Rattle.op_table.specs.declared.call.Call.{Call}
use Rattle.op_table.specs.declared.call.Call.TheVariants.{Load}
use Rattle.op_table.specs.declared.call.Reply.{Reply}
use Rattle.op_table.specs.declared.call.Reply.TheVariants as reply
use Rattle.op_table.specs.Call.{answer_of}
use Rattle.place_core.specs.declared.entry.Entry.{Entry}
use Rattle.place_core.specs.declared.places.WordOp.{WordOp}
use Rattle.place_core.specs.declared.places.WordOp.TheVariants as op
use Rattle.place_core.specs.Shapes.{kind_in, word_of}
use Rattle.place_core.specs.Cells.{entries_by}
use Rattle.place_core.specs.Passes
use Rattle.seat_views.specs.declared.view.StepKind.{StepKind}
use Rattle.seat_views.specs.declared.view.StepKind.TheVariants as kind
use Rattle.seat_views.specs.declared.view.Item.{Item}
use Rattle.seat_views.specs.declared.view.Ended.{Ended}
use Rattle.seat_views.specs.declared.view.Flight.{Flight}
use Rattle.seat_views.specs.declared.view.Flight.TheVariants.{Idle}
use Rattle.seat_views.specs.declared.view.Role.TheVariants as role
use Rattle.seat_views.specs.declared.view.Beside.TheVariants as beside
use Rattle.seat_views.specs.declared.view.View.{View}
use Rattle.seat_views.specs.Places.{value_after, IsLegalIn}
use Rattle.seat_views.specs.Deciding.{look_settles, lost_try_settles}
use Rattle.seat_views.specs.Rule.{caller_of, number_of_ended, entries_of_ended}

-- ---- what a step is asked for

-- the object and the call; the part; the value that was read; the stamp of the glance, or the first of the locks; of a
-- lane its kind, its lowest bit, how many bits
-- it has, and the step that serves the call
pub record Asked : Type 0 where
  pub object : ℕ
  pub call : Call
  pub part : ℕ
  pub value : ℕ
  pub stamp : ℕ
  pub kind : Kind
  pub shift : ℕ
  pub width : ℕ
  pub done : WordOp

abbrev pub no_ask : Asked
no_ask = record { object = 0; call = Load; part = 0; value = 0; stamp = 0; kind = kind_in None; shift = 0; width = 0; done = op.Load }

-- a call on a lane
abbrev pub asked : Kind → ℕ → ℕ → ℕ → Call → WordOp → Asked
asked k s d o call done = record { object = o; call = call; part = 0; value = 0; stamp = 0; kind = k; shift = s; width = d; done = done }

-- an object, and the first stamp of the locks
abbrev pub asked_object : ℕ → ℕ → Asked
asked_object o first = record no_ask { object = o; stamp = first }

-- a part
abbrev pub asked_part : ℕ → Asked
asked_part i = record no_ask { part = i }

-- the end of a hold, with the value that was read
abbrev pub asked_value : Kind → ℕ → Call → ℕ → Asked
asked_value k o call v = record no_ask { object = o; call = call; value = v; kind = k }

-- the end of a glance, with the value that was read
abbrev pub asked_match : ℕ → ℕ → ℕ → Asked
asked_match o v stamp = record no_ask { object = o; value = v; stamp = stamp }

-- the lane's bits of a word
abbrev pub lane_in : Asked → ℕ → ℕ
lane_in a n = n / 2 ^ a.shift % 2 ^ a.width

-- ---- items

abbrev pub item : ℕ → StepKind → ℕ → Item
item word k n = record { word = word; kind = k; number = Some n }

-- a store finds no number
abbrev pub number_of : WordOp → ℕ → Option ℕ
number_of op.Load n = Some n
number_of (op.Store k) n = None
number_of (op.Swap k) n = Some n
number_of (op.Cas e k) n = Some n
number_of (op.Add k) n = Some n
number_of (op.Sub k) n = Some n
number_of (op.And k) n = Some n
number_of (op.Or k) n = Some n
number_of (op.Xor k) n = Some n
number_of (op.Max k) n = Some n
number_of (op.Min k) n = Some n

abbrev pub op_item : ℕ → WordOp → ℕ → Item
op_item word done n = record { word = word; kind = kind.Op; number = number_of done n }

-- ---- views after a step

abbrev pub entry : ℕ → ℕ → Call → Reply → Entry
entry c o call r = record { caller = c; object = o; call = call; reply = r }

-- with an entry at the end of all that was seen, and one more step
abbrev pub grown : View → List Entry → Entry → Item → View
grown v log x i = record v { seen = log ++ x ∷ []; mine = v.mine ++ x ∷ []; trail = v.trail ++ i ∷ []; flight = Idle; beside = beside.Nobody }

-- with all that was made seen, one more step, and no entry
abbrev pub caught_up : View → List Entry → Item → View
caught_up v log i = record v { seen = log; trail = v.trail ++ i ∷ []; flight = Idle; beside = beside.Nobody }

-- with one more step, and another call in flight
abbrev pub moved : View → Item → Flight → View
moved v i f = record v { trail = v.trail ++ i ∷ []; flight = f }

-- ---- what a pass knows by itself

abbrev pub IsRootSound : List Entry → ℕ → List Ended → Type 0
IsRootSound seen given ended = Passes.IsRootSound caller_of number_of_ended entries_of_ended seen given ended

-- what it has seen is legal, and its entries there are its own; the root knows all callers, and all that ended
pub record IsSoundView (v : View) : Type 0 where
  pub role : v.role ≡ role.Pass
  pub legal : IsLegalIn v.shape v.seen
  pub own : entries_by v.seen v.number ≡ v.mine
  pub root : v.number ≡ 0 → IsRootSound v.seen v.given v.ended

-- ---- what steps on a lane tell

-- the step appended the entry to what others had made between
pub record Grows (v : View) (x : Entry) (i : Item) (w : View) : Type 0 where
  pub between : List Entry
  pub now : w ≡ grown v (v.seen ++ between) x i
  pub sound : IsSoundView w

-- and n was the data word before the entry
pub record GrowsAt (v : View) (x : Entry) (i : Item) (word n : ℕ) (w : View) : Type 0 where
  pub between : List Entry
  pub now : w ≡ grown v (v.seen ++ between) x i
  pub word_is : word_of v.shape (v.seen ++ between) word ≡ n
  pub sound : IsSoundView w

-- and n was the value of the entry's object before it
pub record GrowsFrom (v : View) (x : Entry) (i : Item) (n : ℕ) (w : View) : Type 0 where
  pub between : List Entry
  pub now : w ≡ grown v (v.seen ++ between) x i
  pub value_is : value_after v.shape (v.seen ++ between) x.object ≡ n
  pub sound : IsSoundView w

-- the step made no entry, and has seen all: there the data word is n
pub record Sees (v : View) (i : Item) (word n : ℕ) (w : View) : Type 0 where
  pub between : List Entry
  pub now : w ≡ caught_up v (v.seen ++ between) i
  pub word_is : word_of v.shape (v.seen ++ between) word ≡ n
  pub sound : IsSoundView w

abbrev pub asked_entry : Asked → ℕ → Reply → Entry
asked_entry a c r = entry c a.object a.call r

-- a step that makes the call found a word at which the call replies as at the number n that the step tells. That is the word
-- found, but for a store, which tells the number stored
pub record MakesAt (a : Asked) (word : ℕ) (v : View) (n : ℕ) (w : View) : Type 0 where
  pub found : ℕ
  pub same : answer_of a.kind a.call (lane_in a n) ≡ answer_of a.kind a.call (lane_in a found)
  pub grows : GrowsAt v (asked_entry a v.number (answer_of a.kind a.call (lane_in a found))) (op_item word a.done found) (word - 1) found w

abbrev pub op_tells : Asked → ℕ → Me (Unit {0}) View → ℕ → Me (Unit {0}) View → Type 0
op_tells a word m n w = (w.1 ≡ m.1) × MakesAt a word m.0 n w.0

abbrev pub op_told : Asked → Step (Unit {0}) → Me (Unit {0}) View → ℕ → Me (Unit {0}) View → Type 0
op_told a st m n w = op_tells a st.word m n w

-- a look that settles the call makes it
abbrev pub look_tells : Asked → ℕ → Me (Unit {0}) View → ℕ → Me (Unit {0}) View → Type 0
look_tells a word m n w = (w.1 ≡ m.1)
    × (look_settles a.call (lane_in a n) ≡ true → GrowsAt m.0 (asked_entry a m.0.number (answer_of a.kind a.call (lane_in a n))) (item word kind.Look n) (word - 1) n w.0)
    × (look_settles a.call (lane_in a n) ≡ false → Sees m.0 (item word kind.Look n) (word - 1) n w.0)

abbrev pub look_told : Asked → Step (Unit {0}) → Me (Unit {0}) View → ℕ → Me (Unit {0}) View → Type 0
look_told a st m n w = look_tells a st.word m n w

-- a try that won made the call; one that lost made it where it fails so, and else saw another word
abbrev pub try_tells : Asked → ℕ → ℕ → Me (Unit {0}) View → ℕ → Me (Unit {0}) View → Type 0
try_tells a word found m n w = (w.1 ≡ m.1)
    × (n ≡ found → GrowsAt m.0 (asked_entry a m.0.number (answer_of a.kind a.call (lane_in a n))) (item word kind.Try n) (word - 1) n w.0)
    × (n ≢ found → lost_try_settles a.call (lane_in a n) ≡ true → GrowsAt m.0 (asked_entry a m.0.number (reply.Failed (lane_in a n))) (item word kind.Try n) (word - 1) n w.0)
    × (n ≢ found → lost_try_settles a.call (lane_in a n) ≡ false → Sees m.0 (item word kind.Try n) (word - 1) n w.0)

abbrev pub try_told : Asked → Step (Unit {0}) → Me (Unit {0}) View → ℕ → Me (Unit {0}) View → Type 0
try_told a st m n w = try_tells a st.word st.first m n w
