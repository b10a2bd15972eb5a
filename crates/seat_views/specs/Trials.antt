-- What the tests know of passes between their steps.
use Rattle.std.specs.Prelude.{◌≡◌, ℕ, ◌<◌, ◌^◌, true, false, List, [], ◌∷◌, ◌++◌, Some}
use Rattle.place_core.specs.declared.places.Place.TheVariants.{Parts}
use Rattle.place_core.specs.declared.shape.Shape.{Shape}
use Rattle.place_core.specs.PartValues.{part_of}
use Rattle.place_core.specs.Shapes.{place_of}
use Rattle.seat_views.specs.declared.view.Flight.TheVariants.{Idle, Hold, Glance}
use Rattle.seat_views.specs.PartLists.{HasAll}
use Rattle.seat_views.specs.Moves.{ended_pass}
use Rattle.seat_views.specs.States.{ArenaState, PassState, IsOf}

-- a pass of the arena, with nothing in flight
pub record IsReady (a : ArenaState) (p : PassState) : Type 0 where
  pub of : IsOf a p
  pub rest : p.flight ≡ Idle

-- the root's pass
pub record IsReadyRoot (a : ArenaState) (p : PassState) : Type 0 where
  pub ready : IsReady a p
  pub root : p.number ≡ 0

-- the object has two parts of 64 bits
pub record HasTwoParts (S : Shape) (o : ℕ) : Type 0 where
  pub lock : ℕ
  pub first : ℕ
  pub place : place_of S o ≡ Some (Parts lock first 2 64)
  pub bits : S.word_bits ≡ 64

-- a lock that was just taken
pub record IsTaken (a : ArenaState) (o : ℕ) (p : PassState) : Type 0 where
  pub of : IsOf a p
  pub stamp : ℕ
  pub flight : p.flight ≡ Hold o stamp [] false []

-- both parts were read
pub record HasRead (a : ArenaState) (o : ℕ) (p : PassState) : Type 0 where
  pub of : IsOf a p
  pub stamp : ℕ
  pub low : ℕ
  pub high : ℕ
  pub low_fits : low < 2 ^ 64
  pub high_fits : high < 2 ^ 64
  pub flight : p.flight ≡ Hold o stamp ((1, high) ∷ (0, low) ∷ []) false []

-- and then those of a value were written
pub record HasWritten (a : ArenaState) (o v : ℕ) (p : PassState) : Type 0 where
  pub of : IsOf a p
  pub stamp : ℕ
  pub low : ℕ
  pub high : ℕ
  pub flight : p.flight ≡ Hold o stamp ((1, high) ∷ (0, low) ∷ []) true ((1, part_of 64 1 v) ∷ (0, part_of 64 0 v) ∷ (1, high) ∷ (0, low) ∷ [])

-- a glance that was just begun
pub record IsGlanced (a : ArenaState) (o : ℕ) (p : PassState) : Type 0 where
  pub of : IsOf a p
  pub stamp : ℕ
  pub flight : p.flight ≡ Glance o stamp []

-- and has read both parts
pub record HasGlanced (a : ArenaState) (o : ℕ) (p : PassState) : Type 0 where
  pub of : IsOf a p
  pub stamp : ℕ
  pub low : ℕ
  pub high : ℕ
  pub flight : p.flight ≡ Glance o stamp ((1, high) ∷ (0, low) ∷ [])

-- the two passes stand last among those that ended
pub record EndsBoth (p one two q : PassState) : Type 0 where
  pub ended : q.ended ≡ (p.ended ++ ended_pass one.number one.mine one.trail one.aside ∷ []) ++ ended_pass two.number two.mine two.trail two.aside ∷ []

-- a glance that has read the first n parts
pub record SeesParts (a : ArenaState) (o n : ℕ) (p : PassState) : Type 0 where
  pub of : IsOf a p
  pub stamp : ℕ
  pub read : List (ℕ × ℕ)
  pub known : HasAll n read
  pub flight : p.flight ≡ Glance o stamp read
