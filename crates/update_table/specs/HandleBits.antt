-- A handle as the number of its bits.
use Rattle.std.specs.Prelude.{ℕ}
use Rattle.ptr_handles.specs.declared.handle.Handle.{Handle}

-- the handle with these bits
abbrev pub handle_of : ℕ → Handle
handle_of n = record { bits = n }

abbrev pub bits_of_handle : Handle → ℕ
bits_of_handle h = h.bits
