-- The orders of a call line: the success order, and in an exchange the failure order.
use Rattle.std.specs.Prelude.{Bool, true, false, List, [], ◌∷◌, Option, Some, None, if◌then◌else◌}
use Rattle.std.specs.List.{list_all}
use Rattle.op_table.specs.declared.call.Call.{Call}
use Rattle.op_table.specs.declared.order.Order.{Order}
use Rattle.op_table.specs.declared.order.Order.TheVariants.{Relaxed, Acquire, Release, AcqRel, SeqCst}
use Rattle.op_table.specs.CallTests.{is_exchange}
use Rattle.place_core.specs.declared.script.Line.{Line}
use Rattle.work_lang.specs.declared.orders.Orders.{Orders}

-- orders that are left out are sequentially consistent
abbrev pub left_out : Call → Orders
left_out x = record { success = SeqCst; failure = if is_exchange x then Some SeqCst else None }

abbrev pub and_failure : Option Order → List Order
and_failure None = []
and_failure (Some failure) = failure ∷ []

-- the orders of a line, in order
abbrev pub orders_of : Line → List Order
orders_of line = line.success ∷ and_failure line.failure

abbrev pub is_seq_cst : Order → Bool
is_seq_cst Relaxed = false
is_seq_cst Acquire = false
is_seq_cst Release = false
is_seq_cst AcqRel = false
is_seq_cst SeqCst = true

-- whether the orders may be left out
abbrev pub are_seq_cst : List Order → Bool
are_seq_cst orders = list_all is_seq_cst orders
