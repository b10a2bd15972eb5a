-- What is said of the beginning and the end of a glance.
use Rattle.std.specs.Prelude.{◌≡◌, ◌≢◌, ℕ, []}
use Rattle.place_core.specs.declared.shape.Shape.{Shape}
use Rattle.seat_views.specs.declared.view.Flight.TheVariants.{Glance}
use Rattle.seat_views.specs.Limits.{last_stamp}
use Rattle.seat_views.specs.LockSteps.{stamp_in}
use Rattle.seat_views.specs.States.{PassState}
use Rattle.seat_views.specs.LockStates.{ReadsStamp, Misses}
use Rattle.seq_lock.specs.declared.glances.Missed.{Missed}
use Rattle.seq_lock.specs.declared.glances.Missed.TheVariants.{Held, Moved, Last}

-- the lock's stamp was read, and is neither 1 nor the last: a glance at it is in flight. Each lock began with the first
-- stamp
pub record Begins (S : Shape) (o first : ℕ) (p : PassState) (n : ℕ) (q : PassState) : Type 0 where
  pub free : n ≢ 1
  pub going : n ≢ last_stamp
  pub stamp : ReadsStamp S o first p n q
  pub flight : q.flight ≡ Glance o n []

-- it is 1, or the last
abbrev pub BeginsNot : Shape → ℕ → ℕ → PassState → Missed → PassState → Type 0
BeginsNot S o first p Held q = ReadsStamp S o first p 1 q
BeginsNot S o first p (Moved one two) q = ⊥
BeginsNot S o first p Last q = ReadsStamp S o first p last_stamp q

-- the lock's number is another than the glance's stamp
abbrev pub EndsNot : Shape → ℕ → PassState → Missed → PassState → Type 0
EndsNot S o p Held q = ⊥
EndsNot S o p (Moved first second) q = (first ≡ stamp_in p.flight) × Misses S o p second q
EndsNot S o p Last q = ⊥
