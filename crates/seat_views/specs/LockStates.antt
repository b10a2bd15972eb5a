-- What contracts say of the steps on locks and parts.
use Rattle.std.specs.Prelude.{◌≡◌, ◌≢◌, ◌%◌, ◌^◌, ◌<◌, ℕ, Bool, MatchBool, ◌++◌}
use Rattle.op_table.specs.declared.call.Call.{Call}
use Rattle.op_table.specs.declared.call.Call.TheVariants.{Load}
use Rattle.op_table.specs.declared.call.Reply.{Reply}
use Rattle.op_table.specs.declared.call.Reply.TheVariants.{Value}
use Rattle.op_table.specs.Kind.{values_of}
use Rattle.op_table.specs.Call.{answer_of}
use Rattle.place_core.specs.declared.shape.Shape.{Shape}
use Rattle.place_core.specs.Shapes.{place_of, kind_of}
use Rattle.seat_views.specs.declared.view.StepKind.TheVariants as kind
use Rattle.seat_views.specs.declared.view.Flight.TheVariants.{Idle}
use Rattle.seat_views.specs.Places.{value_after, lock_in, word_of_lock, word_of_part}
use Rattle.seat_views.specs.Stamps.{IsStampIn}
use Rattle.seat_views.specs.Steps.{entry, item}
use Rattle.seat_views.specs.LockSteps.{taken_flight, stamped_flight, read_more, write_more, stamp_in, stored_by, value_read}
use Rattle.seat_views.specs.States.{PassState, Appends, Moved}

-- n is a stamp of the object's lock, of which the pass can tell this much; each lock began with the first stamp
abbrev pub IsStampOf : Shape → ℕ → ℕ → PassState → ℕ → Type 0
IsStampOf S o first p n = IsStampIn S (lock_in (place_of S o)) first p.number p.given p.seen n

-- the lock was found; where it wasn't 1 it is held, with the even stamp that was found
pub record TakesLock (S : Shape) (o first : ℕ) (p : PassState) (won : Bool) (q : PassState) : Type 0 where
  pub found : ℕ
  pub won_is : MatchBool won (found ≢ 1) (found ≡ 1)
  pub even : found ≢ 1 → found % 2 ≡ 0
  pub stamp : found ≢ 1 → IsStampOf S o first p found
  pub moved : Moved p (item (word_of_lock S o) kind.Take found) (taken_flight o found) q

-- part i was read under the lock, a number of a part's bits, and no greater than a value of the kind
pub record ReadsHeld (S : Shape) (o i : ℕ) (p : PassState) (n : ℕ) (q : PassState) : Type 0 where
  pub small : n < 2 ^ S.word_bits
  pub of_kind : n < values_of (kind_of S o)
  pub moved : Moved p (item (word_of_part S o i) kind.Held n) (read_more p.flight i n) q

-- part i was written
pub record PutsPart (S : Shape) (o i : ℕ) (p : PassState) (n : ℕ) (q : PassState) : Type 0 where
  pub moved : Moved p (item (word_of_part S o i) kind.Put n) (write_more p.flight i n) q

-- the lock was given up with its stamp, and the call has the reply of the value that was read, which is the object's
-- where the entry comes
pub record Releases (S : Shape) (o : ℕ) (call : Call) (p : PassState) (r : Reply) (q : PassState) : Type 0 where
  pub reply : r ≡ answer_of (kind_of S o) call (value_read S o p.flight)
  pub appends : Appends p (entry p.number o call r) (item (word_of_lock S o) kind.Release (stored_by p.flight)) q
  pub value : value_after S (p.seen ++ appends.between) o ≡ value_read S o p.flight

-- the lock's stamp was read, which begins a glance unless it is 1 or the last
pub record ReadsStamp (S : Shape) (o first : ℕ) (p : PassState) (n : ℕ) (q : PassState) : Type 0 where
  pub stamp : n ≢ 1 → IsStampOf S o first p n
  pub moved : Moved p (item (word_of_lock S o) kind.Stamp n) (stamped_flight o n) q

-- part i was read in a glance, a number of a part's bits
pub record ReadsPart (S : Shape) (o i : ℕ) (p : PassState) (n : ℕ) (q : PassState) : Type 0 where
  pub small : n < 2 ^ S.word_bits
  pub moved : Moved p (item (word_of_part S o i) kind.Part n) (read_more p.flight i n) q

-- the glance's stamp was found again, and the parts that were read are the value
pub record Matches (S : Shape) (o : ℕ) (p : PassState) (v : ℕ) (q : PassState) : Type 0 where
  pub value : v ≡ value_read S o p.flight
  pub appends : Appends p (entry p.number o Load (Value v)) (item (word_of_lock S o) kind.Match (stamp_in p.flight)) q

-- another number was found, and no entry was made
pub record Misses (S : Shape) (o : ℕ) (p : PassState) (n : ℕ) (q : PassState) : Type 0 where
  pub differs : n ≢ stamp_in p.flight
  pub moved : Moved p (item (word_of_lock S o) kind.Match n) Idle q
