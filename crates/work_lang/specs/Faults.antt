-- Counts of faults, and what they say of an answer.
use Rattle.std.specs.Prelude.{ℕ, ◌≡◌, ◌+◌, ◌-◌, ◌^◌, ◌≤◌, min, Result, OnOk, OnErr}

-- the last value of a count, at which it stands still
abbrev pub last_count : ℕ
last_count = 2 ^ 64 - 1

-- the next value of a count
abbrev pub next_count : ℕ → ℕ
next_count n = min (n + 1) last_count

-- a count rose: it is one more than before, or it stands still at its last value
abbrev pub Rose : ℕ → ℕ → Type 0
Rose before now = now ≡ next_count before

-- the count never falls: it is one more after an error, and as before without one
pub record HasCause {T E : Type 0} (before now : ℕ) (result : Result T E) : Type 0 where
  pub later : before ≤ now
  pub failed : OnErr result (Rose before now)
  pub same : OnOk result (now ≡ before)
