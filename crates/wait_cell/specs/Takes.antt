-- What contracts say of taking one from a number that isn't 0.
use Rattle.std.specs.Prelude.{◌≡◌, ℕ, ◌+◌, ◌-◌, ◌<◌, ◌≤◌, false, List, [], ◌∷◌, ◌++◌, length, ⊤}
use Rattle.op_table.specs.declared.kind.Width.TheVariants.{W32}
use Rattle.op_table.specs.declared.call.Call.{Call}
use Rattle.op_table.specs.declared.call.Call.TheVariants.{Load, Cas}
use Rattle.op_table.specs.declared.call.Reply.{Reply}
use Rattle.op_table.specs.declared.call.Reply.TheVariants as reply
use Rattle.place_core.specs.declared.shape.Shape.{Shape}
use Rattle.place_core.specs.Shapes.{kind_of}
use Rattle.scalar_laws.specs.Kinds.{integer}
use Rattle.seat_views.specs.States.{PassState}
use Rattle.seat_views.specs.Makes.{MakesCalls}
use Rattle.wait_cell.specs.Waits.{Waits}

-- the shape has a u32 at this number
abbrev pub HasCount : Shape → ℕ → Type 0
HasCount S o = (o < length S.objects) × (kind_of S o ≡ integer W32 false)

-- of these numbers, after a first one, the last
abbrev pub last_of : ℕ → List ℕ → ℕ
last_of n [] = n
last_of n (m ∷ ms) = last_of m ms

-- exchanges for one less, each from the number that was replied last: n before them all, and these numbers by each
abbrev pub tries_from : ℕ → ℕ → List ℕ → List (ℕ × Call)
tries_from o n [] = []
tries_from o n (m ∷ ms) = (o, Cas n (n - 1)) ∷ tries_from o m ms

-- each number from which they go is at least 1
abbrev pub FromOne : ℕ → List ℕ → Type 0
FromOne n [] = ⊤
FromOne n (m ∷ ms) = (1 ≤ n) × FromOne m ms

-- the replies of exchanges that failed at these numbers
abbrev pub failing : List ℕ → List Reply
failing [] = []
failing (n ∷ ns) = reply.Failed n ∷ failing ns

-- the pass loaded n, and then tried to exchange the number replied last, at least 1, for one less: each try failed, and
-- they replied these numbers
pub record Tries (S : Shape) (o : ℕ) (p : PassState) (n : ℕ) (failed : List ℕ) (q : PassState) : Type 0 where
  pub from_one : FromOne n failed
  pub made : MakesCalls S ((o, Load) ∷ tries_from o n failed) p (reply.Value n ∷ failing failed) q

-- and then the number replied last was 0
pub record FindsZero (S : Shape) (o : ℕ) (p q : PassState) : Type 0 where
  pub loaded : ℕ
  pub failed : List ℕ
  pub tries : Tries S o p loaded failed q
  pub zero : last_of loaded failed ≡ 0

-- the same, but then one more try, from the number replied last, was done, and left one less
pub record TakesOne (S : Shape) (o : ℕ) (p : PassState) (left : ℕ) (q : PassState) : Type 0 where
  pub loaded : ℕ
  pub failed : List ℕ
  pub from_one : FromOne loaded failed
  pub from : last_of loaded failed ≡ left + 1
  pub made : MakesCalls S (((o, Load) ∷ tries_from o loaded failed) ++ (o, Cas (left + 1) left) ∷ []) p ((reply.Value loaded ∷ failing failed) ++ reply.Done (left + 1) ∷ []) q

-- the pass found 0, and waited for another number
pub record WaitsForOne (S : Shape) (o : ℕ) (p q : PassState) : Type 0 where
  pub empty : PassState
  pub other : ℕ
  pub found : FindsZero S o p empty
  pub waited : Waits S o 0 empty other q

-- it did so again and again, or not at all
pub data WaitsOften (S : Shape) (o : ℕ) (p : PassState) : PassState → Type 0 where
  Never : WaitsOften S o p p
  Again : (q z : PassState) → WaitsOften S o p q → WaitsForOne S o q z → WaitsOften S o p z

-- and then took one
pub record TakesAtLast (S : Shape) (o : ℕ) (p : PassState) (left : ℕ) (q : PassState) : Type 0 where
  pub ready : PassState
  pub waited : WaitsOften S o p ready
  pub took : TakesOne S o ready left q
