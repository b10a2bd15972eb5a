-- Limits of targets, which shapes share.
use Rattle.std.specs.Prelude.{ℕ}

-- the locks of a target
abbrev pub most_locks : ℕ
most_locks = 67
