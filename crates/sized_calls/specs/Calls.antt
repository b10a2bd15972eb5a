-- Calls on cells: the call that each makes, and why one is refused.
use Rattle.std.specs.Prelude.{◌≡◌, ℕ, ◌*◌, ◌^◌, ◌==◌, nat_lt, Bool, false, not, ◌&&◌, List, [], ◌∷◌, Option, Some, None, slice_get, if◌then◌else◌}
use Rattle.std.specs.List.{list_all, list_any, find}
use Rattle.op_table.specs.declared.call.Call.{Call}
use Rattle.op_table.specs.declared.call.Call.TheVariants as call
use Rattle.sized_calls.specs.declared.cells.Cell.{Cell}
use Rattle.sized_calls.specs.declared.operation.SizedOp.{SizedOp}
use Rattle.sized_calls.specs.declared.operation.SizedOp.TheVariants.{Load, Store, Exchange, CompareExchange, FetchAdd, FetchSub, FetchAnd, FetchOr, FetchXor, FetchNand, AddFetch, SubFetch, AndFetch, OrFetch, XorFetch, NandFetch}
use Rattle.sized_calls.specs.declared.operation.SizedCall.{SizedCall}
use Rattle.sized_calls.specs.declared.operation.SizedFault.{SizedFault}
use Rattle.sized_calls.specs.declared.operation.SizedFault.TheVariants.{NoCell, BadSize, BadValue, BadOrder}

-- ---- what a call does

-- the call with this operation and these values, none of them quiet; an exchange that compares is a strong one
abbrev pub call_with : SizedOp → ℕ → ℕ → Call
call_with Load a b = call.Load
call_with Store a b = call.Store a
call_with Exchange a b = call.Swap a
call_with CompareExchange a b = call.Cas a b
call_with FetchAdd a b = call.Add a false
call_with FetchSub a b = call.Sub a false
call_with FetchAnd a b = call.And a false
call_with FetchOr a b = call.Or a false
call_with FetchXor a b = call.Xor a false
call_with FetchNand a b = call.Nand a
call_with AddFetch a b = call.AddFetch a
call_with SubFetch a b = call.SubFetch a
call_with AndFetch a b = call.AndFetch a
call_with OrFetch a b = call.OrFetch a
call_with XorFetch a b = call.XorFetch a
call_with NandFetch a b = call.NandFetch a

abbrev pub call_of : SizedCall → Call
call_of c = call_with c.op c.a c.b

-- ---- its values and orders

-- the values that an operation uses
abbrev pub used_values : SizedOp → ℕ → ℕ → List ℕ
used_values Load a b = []
used_values CompareExchange a b = a ∷ b ∷ []
used_values _ a b = a ∷ []

-- each has no more bits than the object
abbrev pub values_fit : SizedCall → Bool
values_fit c = list_all (λ v. nat_lt v (2 ^ (8 * c.size))) (used_values c.op c.a c.b)

-- orders by GCC's numbers: 0 is relaxed, 1 consume, 2 acquire, 3 release, 4 acq_rel, 5 seq_cst
abbrev pub load_orders : List ℕ
load_orders = 0 ∷ 1 ∷ 2 ∷ 5 ∷ []

abbrev pub store_orders : List ℕ
store_orders = 0 ∷ 3 ∷ 5 ∷ []

abbrev pub all_orders : List ℕ
all_orders = 0 ∷ 1 ∷ 2 ∷ 3 ∷ 4 ∷ 5 ∷ []

abbrev pub is_among : List ℕ → ℕ → Bool
is_among numbers n = list_any (λ m. n == m) numbers

-- the orders that an operation accepts; an exchange that compares accepts for its failure what a load accepts
abbrev pub accepts : SizedOp → ℕ → ℕ → Bool
accepts Load order failure = is_among load_orders order
accepts Store order failure = is_among store_orders order
accepts CompareExchange order failure = is_among all_orders order && is_among load_orders failure
accepts _ order failure = is_among all_orders order

-- ---- why it is refused

-- the cell with an address
abbrev pub cell_with : List Cell → ℕ → Option Cell
cell_with cells address = find (λ (c : Cell). c.address == address) cells

-- the first cause, where this cell has the address
abbrev pub fault_at : Option Cell → SizedCall → Option SizedFault
fault_at None c = Some NoCell
fault_at (Some cell) c = if not (cell.size == c.size) then Some BadSize
    else if not (values_fit c) then Some BadValue
    else if not (accepts c.op c.order c.failure) then Some BadOrder
    else None

abbrev pub sized_fault : List Cell → SizedCall → Option SizedFault
sized_fault cells c = fault_at (cell_with cells c.address) c

-- the cell with this number has the address
pub record IsCellAt (cells : List Cell) (address number : ℕ) : Type 0 where
  pub cell : Cell
  pub at : slice_get cells number ≡ Some cell
  pub here : cell.address ≡ address
