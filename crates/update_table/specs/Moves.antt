-- Histories in which an object only moves as a rule allows.
use Rattle.std.specs.Prelude.{◌≡◌, ◌⊎◌, ℕ, ◌≤◌, false, ⊤, List, [], ◌∷◌, ◌++◌, Option, Some, None, Result, Ok, Err}
use mathlib.Core.List.{IsPrefix}
use Rattle.op_table.specs.declared.call.Call.{Call}
use Rattle.op_table.specs.declared.call.Call.TheVariants.{Load, Cas, CasWeak}
use Rattle.op_table.specs.CallTests.{has_failed}
use Rattle.place_core.specs.declared.entry.Entry.{Entry}
use Rattle.place_core.specs.declared.shape.Shape.{Shape}
use Rattle.place_core.specs.Histories.{Each}
use Rattle.place_core.specs.Cells.{value_of, IsLegal}
use Rattle.place_core.specs.Shapes.{cells_of_shape, start_of}
use Rattle.seat_views.specs.States.{PassState}
use Rattle.update_table.specs.declared.update.Stop.{Stop}
use Rattle.update_table.specs.declared.update.Stop.TheVariants.{Refused, Outside}
use Rattle.update_table.specs.Rules.{InRange, raised, cycled}
use Rattle.update_table.specs.Updates.{Updates}

-- a load, or an exchange of e for n where e may move to n
abbrev pub IsMove : (ℕ → ℕ → Type 0) → Call → Type 0
IsMove moves Load = ⊤
IsMove moves (Cas e n) = moves e n
IsMove moves (CasWeak e n) = moves e n
IsMove moves _ = ⊥

-- each entry on object o that doesn't reply that it failed is such a call
abbrev pub AllMove : (ℕ → ℕ → Type 0) → ℕ → List Entry → Type 0
AllMove moves o H = Each (λ G x. x.object ≡ o → has_failed x.reply ≡ false → IsMove moves x.call) H

-- o begins from lo to hi, and is only loaded, or exchanged for a number from lo to hi
abbrev pub StaysInRange : Shape → ℕ → ℕ → ℕ → List Entry → Type 0
StaysInRange S lo hi o H = InRange lo hi (start_of S o) × AllMove (λ e n. InRange lo hi n) o H

-- so each of its values is from lo to hi
abbrev pub ValuesStayInRange : Type 0
ValuesStayInRange = (S : Shape) (lo hi o : ℕ) (H : List Entry) → IsLegal (cells_of_shape S) H → StaysInRange S lo hi o H → (G : List Entry) → IsPrefix G H → InRange lo hi (value_of (cells_of_shape S) G o)

-- an object that is only loaded and raised never falls
abbrev pub RaisedNeverFalls : Type 0
RaisedNeverFalls = (S : Shape) (hi by o : ℕ) (H : List Entry) → IsLegal (cells_of_shape S) H → AllMove (λ e n. Some n ≡ raised hi by e) o H
    → (F G : List Entry) → IsPrefix F G → IsPrefix G H → value_of (cells_of_shape S) F o ≤ value_of (cells_of_shape S) G o

-- the entry is an exchange of e for n on object o that was done
pub record IsDone (x : Entry) (o e n : ℕ) : Type 0 where
  pub object : x.object ≡ o
  pub call : (x.call ≡ Cas e n) ⊎ (x.call ≡ CasWeak e n)
  pub done : has_failed x.reply ≡ false

-- of an object that is only loaded and goes round, two exchanges that were done, with none done between: the second expected
-- what the first stored, and stored the number after it
abbrev pub CycleTakesNext : Type 0
CycleTakesNext = (S : Shape) (lo hi o e n f m : ℕ) (G between more : List Entry) (x y : Entry) → IsLegal (cells_of_shape S) (G ++ x ∷ (between ++ y ∷ more))
    → AllMove (λ v w. w ≡ cycled lo hi v) o (G ++ x ∷ (between ++ y ∷ more)) → IsDone x o e n → AllMove (λ v w. ⊥) o between → IsDone y o f m → (f ≡ n) × (m ≡ cycled lo hi n)

-- the number found last by an update that ended so
abbrev pub IsFoundLast : ℕ → Result ℕ Stop → Type 0
IsFoundLast v (Ok w) = v ≡ w
IsFoundLast v (Err (Refused w)) = v ≡ w
IsFoundLast v (Err (Outside w)) = v ≡ w

-- a rule that leads each number to one answer refuses exactly where it leads the number found last, of its range, to none
abbrev pub RefusedIsExact : Type 0
RefusedIsExact = (S : Shape) (o lo hi v : ℕ) (next : ℕ → Option ℕ) (p : PassState) (r : Result ℕ Stop) (q : PassState)
    → Updates S o lo hi (λ w answer. answer ≡ next w) p r q → IsFoundLast v r → InRange lo hi v → next v ≡ None → r ≡ Err (Refused v)
