-- The limits of a workload. Those that differ are one record for each version of the language.
use Rattle.std.specs.Prelude.{ℕ, ◌==◌, if◌then◌else◌}
use Rattle.work_lang.specs.declared.limits.Limits.{Limits}

-- bytes of a text
abbrev pub most_bytes : ℕ
most_bytes = 8388608

-- threads of a workload
abbrev pub most_threads : ℕ
most_threads = 64

-- the limits of version 1, where each call has a line of its own
abbrev pub first_limits : Limits
first_limits = record { objects = 1024; lines = 65536; lines_in_all = 1000000; calls = 65536; calls_in_all = 1000000 }

-- the limits of version 2, where a block makes its lines many times over
abbrev pub second_limits : Limits
second_limits = record { objects = 4096; lines = 65536; lines_in_all = 1000000; calls = 1000000; calls_in_all = 4000000 }

abbrev pub limits_of : ℕ → Limits
limits_of version = if version == 1 then first_limits else second_limits
