-- What the conditions say of a call in flight.
use Rattle.std.proofs.Common.{◌≡◌, ℕ, Bool, false, List}
use Rattle.op_table.specs.declared.call.Call.{Call}
use Rattle.op_table.specs.Call.{after_of}
use Rattle.place_core.specs.declared.shape.Shape.{Shape}
use Rattle.place_core.specs.PartValues.{joined, AreParts}
use Rattle.place_core.specs.Shapes.{kind_of}
use Rattle.seat_views.specs.declared.view.Flight.{Flight}
use Rattle.seat_views.specs.declared.view.Flight.TheVariants.{Idle, Hold, Glance}
use Rattle.seat_views.specs.Places.{parts_of}
use Rattle.seat_views.specs.PartLists.{got, HasAll}
use Rattle.seat_views.specs.LockSteps.{object_in, parts_now, HoldsClean, HoldsRead, MayRelease, GlancesAt, GlancesRead}

-- a hold that has written nothing
pub record CleanHold (o : ℕ) (f : Flight) : Type 0 where
  pub stamp : ℕ
  pub read : List (ℕ × ℕ)
  pub now : List (ℕ × ℕ)
  pub is : f ≡ Hold o stamp read false now

pub clean_hold : (o : ℕ) (f : Flight) → HoldsClean o f → CleanHold o f
clean_hold o Idle h = absurd h
clean_hold o (Glance p stamp read) h = absurd h
clean_hold o (Hold p stamp read wrote now) h = record { stamp = stamp; read = read; now = now; is = λ i. Hold (h.0 i) stamp read (h.1 i) now }

-- it is at the object
pub clean_object : (o : ℕ) (f : Flight) → HoldsClean o f → object_in f ≡ o
clean_object o Idle h = absurd h
clean_object o (Glance p stamp read) h = absurd h
clean_object o (Hold p stamp read wrote now) h = h.0

-- a hold that has read all parts
pub record ReadHold (o n : ℕ) (f : Flight) : Type 0 where
  pub stamp : ℕ
  pub read : List (ℕ × ℕ)
  pub wrote : Bool
  pub now : List (ℕ × ℕ)
  pub all : HasAll n read
  pub is : f ≡ Hold o stamp read wrote now

pub read_hold : (o n : ℕ) (f : Flight) → HoldsRead o n f → ReadHold o n f
read_hold o n Idle h = absurd h
read_hold o n (Glance p stamp read) h = absurd h
read_hold o n (Hold p stamp read wrote now) h = record { stamp = stamp; read = read; wrote = wrote; now = now; all = h.1; is = λ i. Hold (h.0 i) stamp read wrote now }

-- a hold whose parts are as the call leaves them
pub record ReadyHold (S : Shape) (o : ℕ) (call : Call) (f : Flight) : Type 0 where
  pub stamp : ℕ
  pub read : List (ℕ × ℕ)
  pub wrote : Bool
  pub now : List (ℕ × ℕ)
  pub all : HasAll (parts_of S o) read
  pub parts : AreParts S.word_bits (parts_of S o) (got (parts_now read wrote now)) (after_of (kind_of S o) call (joined S.word_bits (got read) (parts_of S o)))
  pub is : f ≡ Hold o stamp read wrote now

pub ready_hold : (S : Shape) (o : ℕ) (call : Call) (f : Flight) → MayRelease S o call f → ReadyHold S o call f
ready_hold S o call Idle h = absurd h
ready_hold S o call (Glance p stamp read) h = absurd h
ready_hold S o call (Hold p stamp read wrote now) h = record { stamp = stamp; read = read; wrote = wrote; now = now; all = h.1; parts = h.2; is = λ i. Hold (h.0 i) stamp read wrote now }

-- a glance
pub record AnyGlance (o : ℕ) (f : Flight) : Type 0 where
  pub stamp : ℕ
  pub read : List (ℕ × ℕ)
  pub is : f ≡ Glance o stamp read

pub any_glance : (o : ℕ) (f : Flight) → GlancesAt o f → AnyGlance o f
any_glance o Idle h = absurd h
any_glance o (Hold p stamp read wrote now) h = absurd h
any_glance o (Glance p stamp read) h = record { stamp = stamp; read = read; is = λ i. Glance (h i) stamp read }

-- a glance that has read all parts
pub record ReadGlance (o n : ℕ) (f : Flight) : Type 0 where
  pub stamp : ℕ
  pub read : List (ℕ × ℕ)
  pub all : HasAll n read
  pub is : f ≡ Glance o stamp read

pub read_glance : (o n : ℕ) (f : Flight) → GlancesRead o n f → ReadGlance o n f
read_glance o n Idle h = absurd h
read_glance o n (Hold p stamp read wrote now) h = absurd h
read_glance o n (Glance p stamp read) h = record { stamp = stamp; read = read; all = h.1; is = λ i. Glance (h.0 i) stamp read }
