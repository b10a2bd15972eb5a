-- Parts that were read or written, as pairs of a part's number and what it holds, the latest first.
use Rattle.std.specs.Prelude.{◌≡◌, ℕ, ◌<◌, ◌==◌, if◌then◌else◌, List, [], ◌∷◌, Option, Some, None}

-- what is known of part i
abbrev pub look_up : ℕ → List (ℕ × ℕ) → Option ℕ
look_up i [] = None
look_up i (p ∷ ps) = if i == p.0 then Some p.1 else look_up i ps

abbrev pub or_zero : Option ℕ → ℕ
or_zero None = 0
or_zero (Some n) = n

-- part i; 0 where it is not known
abbrev pub got : List (ℕ × ℕ) → ℕ → ℕ
got parts i = or_zero (look_up i parts)

-- each of n parts is known
abbrev pub HasAll : ℕ → List (ℕ × ℕ) → Type 0
HasAll n parts = (i : ℕ) → i < n → look_up i parts ≡ Some (got parts i)
