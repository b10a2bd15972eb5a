-- The sizes that an object may have.
use Rattle.std.specs.Prelude.{ℕ, List, [], ◌∷◌, Bool, ◌||◌, ◌==◌, codes, if◌then◌else◌}

-- in bytes
abbrev pub sizes : List ℕ
sizes = 1 ∷ 2 ∷ 4 ∷ 8 ∷ 16 ∷ []

abbrev pub is_size : ℕ → Bool
is_size n = (n == 1) || ((n == 2) || ((n == 4) || ((n == 8) || (n == 16))))

-- its digits
abbrev pub size_digits : ℕ → List ℕ
size_digits n = if n == 1 then codes "1" else if n == 2 then codes "2" else if n == 4 then codes "4" else if n == 8 then codes "8" else codes "16"
