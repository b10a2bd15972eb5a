-- Histories of an object that counts permits, or that counts down to 0.
use Rattle.std.specs.Prelude.{◌≡◌, ℕ, ◌+◌, ◌-◌, ◌==◌, ◌&&◌, ◌<◌, ◌≤◌, Bool, true, false, List, [], ◌∷◌, ◌++◌, Some, slice_get, ⊤}
use Rattle.std.specs.List.{AllByRecursion}
use mathlib.Core.List.{IsPrefix}
use Rattle.op_table.specs.declared.call.Call.{Call}
use Rattle.op_table.specs.declared.call.Call.TheVariants.{Load, Cas, Add}
use Rattle.op_table.specs.declared.call.Reply.{Reply}
use Rattle.op_table.specs.declared.call.Reply.TheVariants as reply
use Rattle.op_table.specs.Kind.{values_of}
use Rattle.place_core.specs.declared.entry.Entry.{Entry}
use Rattle.place_core.specs.Cells.{Cell, value_of, IsLegal}
use Rattle.place_core.specs.WordSums.{one_if}

-- ---- permits

-- a load, an exchange of a number that isn't 0 for one less, or an addition of 1
abbrev pub IsPermitCall : Call → Type 0
IsPermitCall Load = ⊤
IsPermitCall (Cas e n) = (1 ≤ e) × (n ≡ e - 1)
IsPermitCall (Add a q) = a ≡ 1
IsPermitCall _ = ⊥

-- the call is an addition
abbrev pub is_add : Call → Bool
is_add (Add a q) = true
is_add _ = false

-- the reply tells that an exchange was done
abbrev pub is_done : Reply → Bool
is_done (reply.Done v) = true
is_done _ = false

-- how many additions the history has on object o: permits given back
abbrev pub given_back : ℕ → List Entry → ℕ
given_back o [] = 0
given_back o (x ∷ xs) = one_if ((x.object == o) && is_add x.call) + given_back o xs

-- how many exchanges on object o were done: permits taken
abbrev pub taken : ℕ → List Entry → ℕ
taken o [] = 0
taken o (x ∷ xs) = one_if ((x.object == o) && is_done x.reply) + taken o xs

-- each call on object o is one of these, and at no time were more permits given back than taken
pub record IsPermitHistory (o : ℕ) (H : List Entry) : Type 0 where
  pub calls : AllByRecursion (λ (x : Entry). x.object ≡ o → IsPermitCall x.call) H
  pub lent : (K : List Entry) → IsPrefix K H → given_back o K ≤ taken o K

-- the permits left are those of the start, without those taken, and with those given back, and never more than at the
-- start; so those that are out are at most those of the start
pub record ArePermitsKept (cells : List Cell) (o start : ℕ) (H : List Entry) : Type 0 where
  pub sum : value_of cells H o + taken o H ≡ start + given_back o H
  pub most : value_of cells H o ≤ start
  pub out : taken o H ≤ start + given_back o H

-- so it is of every legal permit history
abbrev pub PermitsAreKept : Type 0
PermitsAreKept = (cells : List Cell) (o : ℕ) (cell : Cell) (H : List Entry) → slice_get cells o ≡ Some cell → cell.start < values_of cell.kind
    → IsLegal cells H → IsPermitHistory o H → ArePermitsKept cells o cell.start H

-- ---- latches

-- a load, or an exchange of a number that isn't 0 for one less
abbrev pub IsLatchCall : Call → Type 0
IsLatchCall Load = ⊤
IsLatchCall (Cas e n) = (1 ≤ e) × (n ≡ e - 1)
IsLatchCall _ = ⊥

-- each call on object o is one of these
abbrev pub IsLatchHistory : ℕ → List Entry → Type 0
IsLatchHistory o H = AllByRecursion (λ (x : Entry). x.object ≡ o → IsLatchCall x.call) H

-- the number in a reply is 0
abbrev pub TellsZero : Reply → Type 0
TellsZero (reply.Value v) = v ≡ 0
TellsZero (reply.Done v) = v ≡ 0
TellsZero (reply.Failed v) = v ≡ 0
TellsZero _ = ⊥

-- the value never rises
abbrev pub LatchNeverRises : Type 0
LatchNeverRises = (cells : List Cell) (o : ℕ) (cell : Cell) (H K : List Entry) → slice_get cells o ≡ Some cell
    → IsLegal cells (H ++ K) → IsLatchHistory o (H ++ K) → value_of cells (H ++ K) o ≤ value_of cells H o

-- once a reply was 0, every later one is
abbrev pub LatchStaysOpen : Type 0
LatchStaysOpen = (cells : List Cell) (o : ℕ) (cell : Cell) (H G K : List Entry) (x y : Entry) → slice_get cells o ≡ Some cell → x.object ≡ o → y.object ≡ o
    → IsLegal cells ((((H ++ x ∷ []) ++ G) ++ y ∷ []) ++ K) → IsLatchHistory o ((((H ++ x ∷ []) ++ G) ++ y ∷ []) ++ K) → TellsZero x.reply → TellsZero y.reply
