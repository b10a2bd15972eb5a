-- What is said of a glance at an object with parts.
use Rattle.std.specs.Prelude.{◌≡◌, ◌≢◌, ℕ, List, [], ◌∷◌, ◌++◌, Some}
use Rattle.op_table.specs.declared.call.Call.TheVariants.{Load}
use Rattle.op_table.specs.declared.call.Reply.TheVariants.{Value}
use Rattle.place_core.specs.declared.shape.Shape.{Shape}
use Rattle.seat_views.specs.declared.view.Item.{Item}
use Rattle.seat_views.specs.declared.view.Flight.TheVariants.{Idle, Glance}
use Rattle.seat_views.specs.declared.view.StepKind.TheVariants as step
use Rattle.seat_views.specs.Places.{parts_of, word_of_lock}
use Rattle.seat_views.specs.PartLists.{HasAll}
use Rattle.seat_views.specs.Steps.{item}
use Rattle.seat_views.specs.Limits.{last_stamp}
use Rattle.seat_views.specs.Paths.{eat_run, IsGlance}
use Rattle.seat_views.specs.States.{PassState, IsKept}
use Rattle.seat_views.specs.Makes.{MakesEntry}
use Rattle.seq_lock.specs.declared.glances.Missed.{Missed}
use Rattle.seq_lock.specs.declared.glances.Missed.TheVariants.{Held, Moved, Last}
use Rattle.seq_lock.specs.Holds.{Steps, first_word}

-- these steps are a stamp of the object's own lock, neither 1 nor the last, each part once from part 0 up, and the lock
-- again, which had the number `second`
pub record IsWhole (S : Shape) (o first second : ℕ) (T : List Item) : Type 0 where
  pub parts : List Item
  pub free : first ≢ 1
  pub going : first ≢ last_stamp
  pub run : eat_run step.Part (first_word S o) (parts_of S o) parts ≡ Some []
  pub split : T ≡ item (word_of_lock S o) step.Stamp first ∷ (parts ++ item (word_of_lock S o) step.Match second ∷ [])

-- the first i parts were read, from part 0 up
pub record Looking (S : Shape) (o : ℕ) (p : PassState) (i : ℕ) (q : PassState) : Type 0 where
  pub stamp : ℕ
  pub free : stamp ≢ 1
  pub going : stamp ≢ last_stamp
  pub parts : List Item
  pub read : List (ℕ × ℕ)
  pub known : HasAll i read
  pub run : eat_run step.Part (first_word S o) i parts ≡ Some []
  pub state : Steps p (item (word_of_lock S o) step.Stamp stamp ∷ parts) (Glance o stamp read) q

-- a glance found the stamp again, which made a load
pub record GlanceHits (S : Shape) (o : ℕ) (p : PassState) (v : ℕ) (q : PassState) : Type 0 where
  pub steps : List Item
  pub stamp : ℕ
  pub whole : IsWhole S o stamp stamp steps
  pub glance : IsGlance S o steps
  pub made : MakesEntry o Load p (Value v) steps q

-- exactly why a glance missed: the lock was held; it had another number in the end; it had its last stamp
abbrev pub MissedBy : Shape → ℕ → Missed → List Item → Type 0
MissedBy S o Held T = T ≡ item (word_of_lock S o) step.Stamp 1 ∷ []
MissedBy S o (Moved first second) T = IsWhole S o first second T × (first ≢ second)
MissedBy S o Last T = T ≡ item (word_of_lock S o) step.Stamp last_stamp ∷ []

-- a glance missed: it made no entry, and nothing is in flight
pub record GlanceMisses (S : Shape) (o : ℕ) (p : PassState) (m : Missed) (q : PassState) : Type 0 where
  pub steps : List Item
  pub why : MissedBy S o m steps
  pub glance : IsGlance S o steps
  pub state : Steps p steps Idle q
  pub kept : IsKept q
