-- At which values of a lane a look or a lost try makes the call.
use Rattle.std.specs.Prelude.{ℕ, Bool, ◌||◌}
use Rattle.op_table.specs.declared.call.Call.{Call}
use Rattle.op_table.specs.CallTests.{is_load, is_weak, expects_another}

-- a look settles the call: a load, or an exchange that expects another value
abbrev pub look_settles : Call → ℕ → Bool
look_settles call v = is_load call || expects_another call v

-- a lost try settles it, with a failure: a weak exchange, or one that expects another value
abbrev pub lost_try_settles : Call → ℕ → Bool
lost_try_settles call v = is_weak call || expects_another call v
