-- Limits of locks and of passes.
use Rattle.std.specs.Prelude.{ℕ}

-- the greatest even number of 64 bits. A lock that has come to it keeps it
abbrev pub last_stamp : ℕ
last_stamp = 18446744073709551614

-- the numbers that a root gives
abbrev pub most_passes : ℕ
most_passes = 65535
