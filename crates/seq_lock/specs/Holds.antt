-- What is said of an object's parts under its lock.
use Rattle.std.specs.Prelude.{◌≡◌, ◌%◌, ◌^◌, ◌<◌, ◌≤◌, ℕ, Bool, true, false, List, [], ◌++◌, Some}
use Rattle.op_table.specs.declared.call.Call.{Call}
use Rattle.op_table.specs.declared.call.Reply.{Reply}
use Rattle.op_table.specs.Kind.{values_of}
use Rattle.op_table.specs.Call.{answer_of}
use Rattle.op_table.specs.CallTests.{does_write}
use Rattle.place_core.specs.PartValues.{joined, AreParts}
use Rattle.place_core.specs.declared.shape.Shape.{Shape}
use Rattle.place_core.specs.Shapes.{place_of, kind_of, data_word}
use Rattle.seat_views.specs.declared.view.Item.{Item}
use Rattle.seat_views.specs.declared.view.Flight.{Flight}
use Rattle.seat_views.specs.declared.view.Flight.TheVariants.{Idle, Hold, Glance}
use Rattle.seat_views.specs.declared.view.StepKind.TheVariants as step
use Rattle.seat_views.specs.Places.{value_after, first_in, parts_of, word_of_lock}
use Rattle.seat_views.specs.PartLists.{got, HasAll}
use Rattle.seat_views.specs.LockSteps.{stamp_in}
use Rattle.seat_views.specs.Paths.{eat_run, eat_takes, eat_held, eat_locked}
use Rattle.seat_views.specs.States.{PassState, IsKept}
use Rattle.seat_views.specs.LockStates.{IsStampOf}
use Rattle.seat_views.specs.Makes.{MakesEntry}

-- the pass made these steps and no entry, and then f is in flight; where f is nothing they are the steps of no call, as
-- seat_views' law `StepsMakeNone` says
abbrev pub Steps : PassState → List Item → Flight → PassState → Type 0
Steps p T f q = q ≡ record p { trail = p.trail ++ T; flight = f }

-- the table's word with an object's first part
abbrev pub first_word : Shape → ℕ → ℕ
first_word S o = data_word (first_in (place_of S o))

-- a lock is held for the object, and its parts were written
abbrev pub HoldsWritten : ℕ → Flight → Type 0
HoldsWritten o Idle = ⊥
HoldsWritten o (Glance p stamp read) = ⊥
HoldsWritten o (Hold p stamp read wrote now) = (p ≡ o) × (wrote ≡ true)

-- a hold, where these parts are what was read of it
abbrev pub with_read : Flight → List (ℕ × ℕ) → Flight
with_read Idle parts = Idle
with_read (Glance o stamp read) parts = Idle
with_read (Hold o stamp read wrote now) parts = Hold o stamp parts wrote now

-- a hold, where these are the parts as they are
abbrev pub with_put : Flight → Bool → List (ℕ × ℕ) → Flight
with_put Idle w parts = Idle
with_put (Glance o stamp read) w parts = Idle
with_put (Hold o stamp read wrote now) w parts = Hold o stamp read w parts

-- takes so far, each of which found the lock held
pub record Trying (S : Shape) (o : ℕ) (p q : PassState) : Type 0 where
  pub steps : List Item
  pub goes_on : (U : List Item) → eat_takes (word_of_lock S o) (steps ++ U) ≡ eat_takes (word_of_lock S o) U
  pub state : Steps p steps Idle q

-- takes that found the lock held, and one that found another number, the lock's stamp: the lock is held. Each lock
-- began with the first stamp
pub record Took (S : Shape) (o first : ℕ) (p q : PassState) : Type 0 where
  pub steps : List Item
  pub stamp : ℕ
  pub eaten : eat_takes (word_of_lock S o) steps ≡ Some (stamp, [])
  pub even : stamp % 2 ≡ 0
  pub found : IsStampOf S o first p stamp
  pub state : Steps p steps (Hold o stamp [] false []) q
  pub kept : IsKept q

-- the first i parts were read, from part 0 up, and joined are v
pub record Reading (S : Shape) (o : ℕ) (p : PassState) (i v : ℕ) (q : PassState) : Type 0 where
  pub steps : List Item
  pub read : List (ℕ × ℕ)
  pub known : HasAll i read
  pub small : (j : ℕ) → j < i → got read j < 2 ^ S.word_bits
  pub of_kind : (j : ℕ) → j < i → got read j < values_of (kind_of S o)
  pub value_is : v ≡ joined S.word_bits (got read) i
  pub eaten : eat_run step.Held (first_word S o) i steps ≡ Some []
  pub state : Steps p steps (with_read p.flight read) q
  pub kept : 1 ≤ i → IsKept q

-- every part was read once, from part 0 up: joined they are v, a value of the object's kind
pub record ReadsAll (S : Shape) (o : ℕ) (p : PassState) (v : ℕ) (q : PassState) : Type 0 where
  pub steps : List Item
  pub read : List (ℕ × ℕ)
  pub known : HasAll (parts_of S o) read
  pub small : (j : ℕ) → j < parts_of S o → got read j < 2 ^ S.word_bits
  pub value_is : v ≡ joined S.word_bits (got read) (parts_of S o)
  pub fits : v < values_of (kind_of S o)
  pub eaten : eat_run step.Held (first_word S o) (parts_of S o) steps ≡ Some []
  pub state : Steps p steps (with_read p.flight read) q
  pub kept : IsKept q

-- the first i parts of v were stored, from part 0 up
pub record Putting (S : Shape) (o : ℕ) (p : PassState) (v i : ℕ) (q : PassState) : Type 0 where
  pub steps : List Item
  pub wrote : Bool
  pub now : List (ℕ × ℕ)
  pub begun : 1 ≤ i → wrote ≡ true
  pub known : HasAll i now
  pub are : AreParts S.word_bits i (got now) v
  pub eaten : eat_run step.Put (first_word S o) i steps ≡ Some []
  pub state : Steps p steps (with_put p.flight wrote now) q
  pub kept : 1 ≤ i → IsKept q

-- every part was stored once, from part 0 up: the parts as they are hold v, and joined are v
pub record PutsAll (S : Shape) (o : ℕ) (p : PassState) (v : ℕ) (q : PassState) : Type 0 where
  pub steps : List Item
  pub now : List (ℕ × ℕ)
  pub known : HasAll (parts_of S o) now
  pub are : AreParts S.word_bits (parts_of S o) (got now) v
  pub joins : joined S.word_bits (got now) (parts_of S o) ≡ v
  pub eaten : eat_run step.Put (first_word S o) (parts_of S o) steps ≡ Some []
  pub state : Steps p steps (with_put p.flight true now) q
  pub kept : IsKept q

-- a call was made under a lock that the pass held: every part read, every part stored where the call writes, and the
-- release. The reply is the table's, of the object's value where the entry comes, which is one of its kind
pub record MakesHeld (S : Shape) (o : ℕ) (call : Call) (p : PassState) (r : Reply) (q : PassState) : Type 0 where
  pub steps : List Item
  pub made : MakesEntry o call p r steps q
  pub eaten : eat_held (word_of_lock S o) (first_word S o) (parts_of S o) (does_write call r) (Some (stamp_in p.flight, steps)) ≡ Some []
  pub value : ℕ
  pub value_is : value_after S (p.seen ++ made.between) o ≡ value
  pub fits : value < values_of (kind_of S o)
  pub reply : r ≡ answer_of (kind_of S o) call value

-- a call was made under the lock: the takes, and then as under a lock that was held
pub record MakesLocked (S : Shape) (o : ℕ) (call : Call) (p : PassState) (r : Reply) (q : PassState) : Type 0 where
  pub steps : List Item
  pub made : MakesEntry o call p r steps q
  pub eaten : eat_locked (word_of_lock S o) (first_word S o) (parts_of S o) (does_write call r) steps ≡ Some []
  pub value : ℕ
  pub value_is : value_after S (p.seen ++ made.between) o ≡ value
  pub fits : value < values_of (kind_of S o)
  pub reply : r ≡ answer_of (kind_of S o) call value
