-- Blocks of bytes, and words that spell them.
use Rattle.std.specs.Prelude.{◌≡◌, ℕ, ◌+◌, ◌-◌, ◌*◌, ◌/◌, ◌≤◌, ◌<◌, List, [], ◌∷◌, ◌++◌, length, take, replicate}
use Rattle.std.specs.List.{flat_map, AllByRecursion}
use Rattle.std.specs.Int.{w64, to_le_bytes}

-- the bytes of words, each word's lowest first
abbrev pub bytes_of : List ℕ → List ℕ
bytes_of words = flat_map (to_le_bytes w64) words

-- the words that so many bytes take: one per eight bytes or part of eight
abbrev pub words_for : ℕ → ℕ
words_for n = (n + 7) / 8

-- 64 bytes of which the first n, at least one, may be any, and the others are 0
pub record IsPadded (n : ℕ) (bytes : List ℕ) : Type 0 where
  pub some : 1 ≤ n
  pub few : n ≤ 64
  pub all : length bytes ≡ 64
  pub zeros : bytes ≡ take n bytes ++ replicate (64 - n) 0

-- words spell a value of n bytes: its bytes, and then only 0
pub record Spells (n : ℕ) (words value : List ℕ) : Type 0 where
  pub count : length value ≡ n
  pub bytes : bytes_of words ≡ value ++ replicate (8 * length words - n) 0
