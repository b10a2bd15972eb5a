-- The parts that a value is split into.
use Rattle.std.specs.Prelude.{◌≡◌, ℕ, zero, suc, ◌+◌, ◌*◌, ◌/◌, ◌%◌, ◌^◌, ◌<◌}

-- part i of a value, where parts have this many bits: part 0 has the lowest
abbrev pub part_of : ℕ → ℕ → ℕ → ℕ
part_of bits i v = v / 2 ^ (bits * i) % 2 ^ bits

-- the value of the first n of these parts
unfoldable pub joined : ℕ → (ℕ → ℕ) → ℕ → ℕ
joined bits parts zero = 0
joined bits parts (suc n) = joined bits parts n + parts n * 2 ^ (bits * n)

-- n parts hold a value: each of them its own bits
abbrev pub AreParts : ℕ → ℕ → (ℕ → ℕ) → ℕ → Type 0
AreParts bits n parts v = (i : ℕ) → i < n → parts i ≡ part_of bits i v
