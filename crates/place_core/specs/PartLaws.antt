-- Laws of the parts of a value, as the module `laws::parts` proves them.
use Rattle.std.specs.Prelude.{◌≡◌, ◌⊎◌, ℕ, ◌*◌, ◌%◌, ◌^◌, ◌<◌, ◌≤◌}
use Rattle.op_table.specs.declared.kind.Kind.{Kind}
use Rattle.op_table.specs.Kind.{bits_of, values_of}
use Rattle.place_core.specs.Shapes.{parts_for}
use Rattle.place_core.specs.PartValues.{part_of, joined, AreParts}

-- each part is a number of a part's bits
abbrev pub PartFits : Type 0
PartFits = (bits i v : ℕ) → part_of bits i v < 2 ^ bits

-- parts that hold a value, joined, are the value
abbrev pub PartsJoinToValue : Type 0
PartsJoinToValue = (bits n : ℕ) (parts : ℕ → ℕ) (v : ℕ) → AreParts bits n parts v → v < 2 ^ (bits * n) → joined bits parts n ≡ v

-- the first n of them are the value's low bits
abbrev pub FirstPartsAreLowBits : Type 0
FirstPartsAreLowBits = (bits n : ℕ) (parts : ℕ → ℕ) (v : ℕ) → AreParts bits n parts v → joined bits parts n ≡ v % 2 ^ (bits * n)

-- what is joined depends on the first n parts alone
abbrev pub EqualPartsJoinEqually : Type 0
EqualPartsJoinEqually = (bits n : ℕ) (parts others : ℕ → ℕ) → ((i : ℕ) → i < n → parts i ≡ others i) → joined bits parts n ≡ joined bits others n

-- values with the same parts are one
abbrev pub EqualPartsAreOfOneValue : Type 0
EqualPartsAreOfOneValue = (bits n u v : ℕ) → u < 2 ^ (bits * n) → v < 2 ^ (bits * n) → ((i : ℕ) → i < n → part_of bits i u ≡ part_of bits i v) → u ≡ v

-- parts that fit hold what they are joined to
abbrev pub JoinedHasItsParts : Type 0
JoinedHasItsParts = (bits n : ℕ) (parts : ℕ → ℕ) → ((i : ℕ) → i < n → parts i < 2 ^ bits) → AreParts bits n parts (joined bits parts n)

-- and that is a number of all their bits
abbrev pub JoinedFits : Type 0
JoinedFits = (bits n : ℕ) (parts : ℕ → ℕ) → ((i : ℕ) → i < n → parts i < 2 ^ bits) → joined bits parts n < 2 ^ (bits * n)

-- ---- how many parts an object has

-- they hold every value of the kind
abbrev pub PartsSuffice : Type 0
PartsSuffice = (k : Kind) (bits v : ℕ) → 1 ≤ bits → v < values_of k → v < 2 ^ (bits * parts_for (bits_of k.width) bits)

-- one fewer wouldn't
abbrev pub NoPartIsSpare : Type 0
NoPartIsSpare = (k : Kind) (bits i : ℕ) → 1 ≤ bits → i < parts_for (bits_of k.width) bits → bits * i < bits_of k.width

-- in words of 32 or 64 bits: one to four, within 128 bits
abbrev pub PartsAreFew : Type 0
PartsAreFew = (k : Kind) (bits : ℕ) → (bits ≡ 32) ⊎ (bits ≡ 64) → (1 ≤ parts_for (bits_of k.width) bits) × (parts_for (bits_of k.width) bits ≤ 4) × (bits * parts_for (bits_of k.width) bits ≤ 128)
