-- The words with which a table of blocks begins.
use Rattle.std.specs.Prelude.{◌≡◌, ℕ, ◌+◌, ◌*◌, ◌<◌, ◌≤◌, List, length, take, Some, slice_index, slice_get}
use Rattle.any_size.specs.declared.spot.Spot.{Spot}
use Rattle.any_size.specs.Bytes.{Spells}
use Rattle.any_size.specs.Histories.{start_at, size_of}
use Rattle.any_size.specs.Layout.{words_in, count_of, first_word, words_at, table_size}
use Rattle.any_size.specs.Keeping.{IsSpot}

-- word 0 and every lock is 0, and the words of each object spell its start
pub record Begins (starts : List (List ℕ)) (locks : ℕ) (words : List ℕ) : Type 0 where
  pub sized : length words ≡ table_size starts locks
  pub zeros : (i : ℕ) → i < 1 + locks → slice_index words i ≡ 0
  pub spelled : (o : ℕ) → o < length starts → Spells (size_of starts o) (words_at words (first_word starts locks o) (count_of starts o)) (start_at starts o)

-- the words, as far as those of the first k objects
pub record LaidSoFar (starts : List (List ℕ)) (locks : ℕ) (words : List ℕ) (k : ℕ) : Type 0 where
  pub sized : length words ≡ 1 + locks + words_in (take k starts)
  pub few : words_in (take k starts) ≤ 8 * k
  pub zeros : (i : ℕ) → i < 1 + locks → slice_index words i ≡ 0
  pub spelled : (o : ℕ) → o < k → Spells (size_of starts o) (words_at words (first_word starts locks o) (count_of starts o)) (start_at starts o)

-- where the first k objects lie
pub record SpotsSoFar (starts : List (List ℕ)) (locks : ℕ) (spots : List Spot) (k : ℕ) : Type 0 where
  pub count : length spots ≡ k
  pub each : (o : ℕ) (x : Spot) → slice_get spots o ≡ Some x → IsSpot starts locks o x
