-- Which answers a number is led to.
use Rattle.std.specs.Prelude.{ℕ, ◌+◌, ◌-◌, ◌≤◌, nat_lt, ◌==◌, if◌then◌else◌, Option, Some, None}

-- the number is from lo to hi
abbrev pub InRange : ℕ → ℕ → ℕ → Type 0
InRange lo hi v = (lo ≤ v) × (v ≤ hi)

-- v raised by `by`; None where that is past hi
abbrev pub raised : ℕ → ℕ → ℕ → Option ℕ
raised hi by v = if nat_lt hi (v + by) then None else Some (v + by)

-- v lowered by `by`; None where that is below lo
abbrev pub lowered : ℕ → ℕ → ℕ → Option ℕ
lowered lo by v = if nat_lt v (lo + by) then None else Some (v - by)

-- the number after v, in a cycle from lo to hi
abbrev pub cycled : ℕ → ℕ → ℕ → ℕ
cycled lo hi v = if v == hi then lo else v + 1

-- a function that may be called at each number from lo to hi, and answers none or such a number there
pub record AnswersWithin (lo hi : ℕ) (can : ℕ → Type 0) (gives : ℕ → Option ℕ → Type 0) : Type 0 where
  pub callable : (v : ℕ) → InRange lo hi v → can v
  pub within : (v n : ℕ) → InRange lo hi v → gives v (Some n) → InRange lo hi n
