-- What contracts say of waiting: a pass loads one object until a number ends that.
use Rattle.std.specs.Prelude.{◌≡◌, ◌≢◌, ℕ, ◌+◌, ◌<◌, List, [], ◌∷◌, ◌++◌, length, map}
use Rattle.std.specs.List.{AllByRecursion}
use Rattle.op_table.specs.declared.call.Call.{Call}
use Rattle.op_table.specs.declared.call.Call.TheVariants.{Load}
use Rattle.op_table.specs.declared.call.Reply.{Reply}
use Rattle.op_table.specs.declared.call.Reply.TheVariants as reply
use Rattle.place_core.specs.declared.shape.Shape.{Shape}
use Rattle.seat_views.specs.States.{PassState}
use Rattle.seat_views.specs.Makes.{MakesCalls}

-- loads of object o, one for each of these numbers
abbrev pub loads_of : ℕ → List ℕ → List (ℕ × Call)
loads_of o [] = []
loads_of o (n ∷ ns) = (o, Load) ∷ loads_of o ns

-- the replies that tell these numbers
abbrev pub telling : List ℕ → List Reply
telling [] = []
telling (n ∷ ns) = reply.Value n ∷ telling ns

-- the pass loaded object o and made no other call; the loads replied these numbers, in order
abbrev pub Loads : Shape → ℕ → List ℕ → PassState → PassState → Type 0
Loads S o numbers p q = MakesCalls S (loads_of o numbers) p (telling numbers) q

-- the pass made so many loads, and each replied a number of this sort
pub record LoadsAll (S : Shape) (o : ℕ) (GoesOn : ℕ → Type 0) (p q : PassState) : Type 0 where
  pub numbers : List ℕ
  pub went_on : AllByRecursion GoesOn numbers
  pub made : Loads S o numbers p q

-- the pass loaded until a load replied a number that ends it, which is v; each before replied one that goes on
pub record LoadsUntil (S : Shape) (o : ℕ) (GoesOn Ends : ℕ → Type 0) (p : PassState) (v : ℕ) (q : PassState) : Type 0 where
  pub before : List ℕ
  pub went_on : AllByRecursion GoesOn before
  pub ended : Ends v
  pub made : Loads S o (before ++ v ∷ []) p q

-- all loads but the last replied e, and the last replied v, another number
abbrev pub Waits : Shape → ℕ → ℕ → PassState → ℕ → PassState → Type 0
Waits S o e p v q = LoadsUntil S o (λ n. n ≡ e) (λ n. n ≢ e) p v q

-- all loads but the last replied a number other than 0, and the last replied 0
abbrev pub WaitsForZero : Shape → ℕ → PassState → PassState → Type 0
WaitsForZero S o p q = LoadsUntil S o (λ n. n ≢ 0) (λ n. n ≡ 0) p 0 q

-- the same as `Waits`, by so many loads at most, of one step each
pub record Looks (S : Shape) (o e turns : ℕ) (p : PassState) (v : ℕ) (q : PassState) : Type 0 where
  pub waits : Waits S o e p v q
  pub few : length waits.before < turns
  pub items : length q.trail ≡ length p.trail + (length waits.before + 1)

-- exactly so many loads, of one step each, replied e
pub record LooksInVain (S : Shape) (o e turns : ℕ) (p q : PassState) : Type 0 where
  pub loads : LoadsAll S o (λ n. n ≡ e) p q
  pub all : length loads.numbers ≡ turns
  pub items : length q.trail ≡ length p.trail + turns
