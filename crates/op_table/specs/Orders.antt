-- The words of orders, and the orders that a call accepts. Rust accepts the same; C11 also forbids a failure order
-- that is stronger than the success order.
use Rattle.std.specs.Prelude.{ℕ, List, [], ◌∷◌, Bool, true, false, ◌&&◌, codes, Option, Some, None, is_none}
use Rattle.op_table.specs.declared.order.Order.{Order}
use Rattle.op_table.specs.declared.order.Order.TheVariants.{Relaxed, Acquire, Release, AcqRel, SeqCst}
use Rattle.op_table.specs.declared.call.Call.{Call}
use Rattle.op_table.specs.declared.call.Call.TheVariants.{Load, Store, Cas, CasWeak}
use Rattle.op_table.specs.Words.{among, rows_by}

abbrev pub order_word : Order → List ℕ
order_word Relaxed = codes "relaxed"
order_word Acquire = codes "acquire"
order_word Release = codes "release"
order_word AcqRel = codes "acq_rel"
order_word SeqCst = codes "seq_cst"

abbrev pub orders : List Order
orders = Relaxed ∷ Acquire ∷ Release ∷ AcqRel ∷ SeqCst ∷ []

-- the order that a word stands for
unfoldable pub order_of_word : List ℕ → Option Order
order_of_word w = among (rows_by order_word orders) w

-- an order that a load may have, and an exchange where it fails
abbrev pub is_load_order : Order → Bool
is_load_order Relaxed = true
is_load_order Acquire = true
is_load_order Release = false
is_load_order AcqRel = false
is_load_order SeqCst = true

abbrev pub is_store_order : Order → Bool
is_store_order Relaxed = true
is_store_order Acquire = false
is_store_order Release = true
is_store_order AcqRel = false
is_store_order SeqCst = true

-- an exchange has a failure order, and it is one of a load
abbrev pub is_failure_order : Option Order → Bool
is_failure_order None = false
is_failure_order (Some failure) = is_load_order failure

-- whether a call accepts a success order and, in an exchange alone, a failure order
abbrev pub order_fits : Call → Order → Option Order → Bool
order_fits Load success failure = is_load_order success && is_none failure
order_fits (Store a) success failure = is_store_order success && is_none failure
order_fits (Cas e n) success failure = is_failure_order failure
order_fits (CasWeak e n) success failure = is_failure_order failure
order_fits _ success failure = is_none failure
