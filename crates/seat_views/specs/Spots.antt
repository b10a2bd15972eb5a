-- What the code finds under an object's number, and what its steps there tell.
use Rattle.std.specs.Prelude.{◌≡◌, ◌≢◌, ◌+◌, ◌/◌, ◌%◌, ◌^◌, ℕ, true, false, Some}
use Rattle.op_table.specs.declared.call.Call.{Call}
use Rattle.op_table.specs.declared.call.Call.TheVariants.{Load}
use Rattle.op_table.specs.declared.call.Reply.TheVariants.{Failed, Value}
use Rattle.op_table.specs.Call.{after_of, answer_of, CallFits}
use Rattle.place_core.specs.declared.places.Place.TheVariants.{Lane, Parts}
use Rattle.place_core.specs.declared.places.WordOp.{WordOp}
use Rattle.place_core.specs.declared.shape.Shape.{Shape}
use Rattle.place_core.specs.Shapes.{place_of, kind_of, is_sole, data_word, lock_word}
use Rattle.place_core.specs.Operations.{op_for, Replaces}
use Rattle.seat_views.specs.declared.lanes.Spot.{Spot}
use Rattle.seat_views.specs.declared.locks.Cell.{Cell}
use Rattle.seat_views.specs.declared.view.View.{View}
use Rattle.seat_views.specs.declared.view.Flight.TheVariants.{Idle}
use Rattle.seat_views.specs.declared.view.StepKind.{StepKind}
use Rattle.seat_views.specs.declared.view.StepKind.TheVariants as kind
use Rattle.seat_views.specs.Deciding.{look_settles, lost_try_settles}
use Rattle.seat_views.specs.Steps.{Asked, asked, entry, item, moved, Grows, GrowsAt, GrowsFrom, Sees, MakesAt}
use Rattle.seat_views.specs.LockSteps.{taken_flight, stamped_flight, read_more, write_more}

-- ---- a lane

abbrev pub IsSpot : Shape → ℕ → Spot → Type 0
IsSpot S o spot = place_of S o ≡ Some (Lane spot.word spot.shift spot.width)

-- the object's kind is the spot's, and has the call
abbrev pub HasCallThere : Shape → ℕ → Spot → Call → Type 0
HasCallThere S o spot call = (kind_of S o ≡ spot.kind) × CallFits spot.kind call

-- this step makes the call there
abbrev pub ServesThere : Shape → Spot → Call → WordOp → Type 0
ServesThere S spot call done = op_for spot.kind spot.shift spot.width (is_sole S spot.word) call ≡ Some done

abbrev pub asked_at : Spot → ℕ → Call → WordOp → Asked
asked_at spot o call done = asked spot.kind spot.shift spot.width o call done

-- the lane's bits of a word
abbrev pub bits_there : Spot → ℕ → ℕ
bits_there spot n = n / 2 ^ spot.shift % 2 ^ spot.width

-- the call was made by a step that tells the number n
abbrev pub MadeByOp : Spot → ℕ → Call → WordOp → View → ℕ → View → Type 0
MadeByOp spot o call done v n w = MakesAt (asked_at spot o call done) (data_word spot.word) v n w

-- a look that found n and settles the call made it
abbrev pub MadeByLook : Spot → ℕ → Call → View → ℕ → View → Type 0
MadeByLook spot o call v n w = look_settles call (bits_there spot n) ≡ true →
    GrowsAt v (entry v.number o call (answer_of spot.kind call (bits_there spot n))) (item (data_word spot.word) kind.Look n) spot.word n w

-- and one that doesn't made no entry
abbrev pub SeenByLook : Spot → Call → View → ℕ → View → Type 0
SeenByLook spot call v n w = look_settles call (bits_there spot n) ≡ false → Sees v (item (data_word spot.word) kind.Look n) spot.word n w

-- the word `next` is the word found with the call's value in the lane
abbrev pub ReplacesThere : Spot → Call → ℕ → ℕ → Type 0
ReplacesThere spot call found next = Replaces spot.shift (bits_there spot found) (after_of spot.kind call (bits_there spot found)) found next

-- a try from `found` that found n: it won, it failed the call, or it made no entry
abbrev pub MadeByWin : Spot → ℕ → Call → ℕ → View → ℕ → View → Type 0
MadeByWin spot o call found v n w = n ≡ found →
    GrowsAt v (entry v.number o call (answer_of spot.kind call (bits_there spot n))) (item (data_word spot.word) kind.Try n) spot.word n w

abbrev pub MadeByFailure : Spot → ℕ → Call → ℕ → View → ℕ → View → Type 0
MadeByFailure spot o call found v n w = n ≢ found → lost_try_settles call (bits_there spot n) ≡ true →
    GrowsAt v (entry v.number o call (Failed (bits_there spot n))) (item (data_word spot.word) kind.Try n) spot.word n w

abbrev pub SeenByTry : Spot → Call → ℕ → View → ℕ → View → Type 0
SeenByTry spot call found v n w = n ≢ found → lost_try_settles call (bits_there spot n) ≡ false → Sees v (item (data_word spot.word) kind.Try n) spot.word n w

-- ---- parts

abbrev pub IsCell : Shape → ℕ → Cell → Type 0
IsCell S o cell = place_of S o ≡ Some (Parts cell.lock cell.first cell.parts cell.bits)

-- the table's word with part i
abbrev pub part_word : Cell → ℕ → ℕ
part_word cell i = data_word (cell.first + i)

-- a step on the lock or on a part of object o, which tells the number n

abbrev pub TakesThere : Shape → ℕ → Cell → View → ℕ → View → Type 0
TakesThere S o cell v n w = w ≡ moved v (item (lock_word S cell.lock) kind.Take n) (taken_flight o n)

abbrev pub ReadsThere : StepKind → Cell → ℕ → View → ℕ → View → Type 0
ReadsThere k cell i v n w = w ≡ moved v (item (part_word cell i) k n) (read_more v.flight i n)

abbrev pub PutsThere : Cell → ℕ → View → ℕ → View → Type 0
PutsThere cell i v n w = w ≡ moved v (item (part_word cell i) kind.Put n) (write_more v.flight i n)

abbrev pub ReleasesThere : Shape → ℕ → Cell → Call → ℕ → View → ℕ → View → Type 0
ReleasesThere S o cell call value v n w =
    GrowsFrom v (entry v.number o call (answer_of cell.kind call value)) (item (lock_word S cell.lock) kind.Release n) value w

abbrev pub StampsThere : Shape → ℕ → Cell → View → ℕ → View → Type 0
StampsThere S o cell v n w = w ≡ moved v (item (lock_word S cell.lock) kind.Stamp n) (stamped_flight o n)

abbrev pub MatchesThere : Shape → ℕ → Cell → ℕ → ℕ → View → ℕ → View → Type 0
MatchesThere S o cell value stamp v n w = n ≡ stamp → Grows v (entry v.number o Load (Value value)) (item (lock_word S cell.lock) kind.Match n) w

abbrev pub MissesThere : Shape → Cell → ℕ → View → ℕ → View → Type 0
MissesThere S cell stamp v n w = n ≢ stamp → w ≡ moved v (item (lock_word S cell.lock) kind.Match n) Idle
