-- Tests for kinds of calls, and of replies. A call that no row names is not of the kind.
use Rattle.std.specs.Prelude.{ℕ, Bool, true, false, ◌&&◌, ◌==◌, not}
use Rattle.op_table.specs.declared.call.Call.{Call}
use Rattle.op_table.specs.declared.call.Call.TheVariants.{Load, Cas, CasWeak, AddFetch, SubFetch, AndFetch, NandFetch, OrFetch, XorFetch}
use Rattle.op_table.specs.declared.call.Reply.{Reply}
use Rattle.op_table.specs.declared.call.Reply.TheVariants.{Failed}

-- a call that only reads
abbrev pub is_load : Call → Bool
is_load Load = true
is_load _ = false

-- an exchange that may fail with the value that it expects
abbrev pub is_weak : Call → Bool
is_weak (CasWeak e n) = true
is_weak _ = false

-- a compare and exchange, which alone has a failure order
abbrev pub is_exchange : Call → Bool
is_exchange (Cas e n) = true
is_exchange (CasWeak e n) = true
is_exchange _ = false

-- a call that answers the new value
abbrev pub is_newer : Call → Bool
is_newer (AddFetch a) = true
is_newer (SubFetch a) = true
is_newer (AndFetch a) = true
is_newer (NandFetch a) = true
is_newer (OrFetch a) = true
is_newer (XorFetch a) = true
is_newer _ = false

-- an exchange that expects another value than v
abbrev pub expects_another : Call → ℕ → Bool
expects_another (Cas e n) v = not (v == e)
expects_another (CasWeak e n) v = not (v == e)
expects_another _ v = false

-- an exchange that was not made
abbrev pub has_failed : Reply → Bool
has_failed (Failed v) = true
has_failed _ = false

-- a call with this reply stores a value: it isn't a load, and didn't fail
abbrev pub does_write : Call → Reply → Bool
does_write call r = not (is_load call) && not (has_failed r)
