-- The words with which an arena begins.
use Rattle.std.specs.Prelude.{◌≡◌, ◌⊎◌, ℕ, ◌+◌, ◌<◌, ◌≤◌, if◌then◌else◌, nat_lt, List, [], length, Some, slice_index}
use Rattle.place_core.specs.declared.shape.Shape.{Shape}
use Rattle.place_core.specs.declared.places.Place.TheVariants.{Lane, Parts as In}
use Rattle.place_core.specs.PartValues.{part_of}
use Rattle.place_core.specs.Shapes.{place_of, start_of, strips_of, data_word, lock_word}
use Rattle.place_core.specs.WordSums.{word_sum}
use Rattle.seat_views.specs.declared.view.Opening.{Opening}
use Rattle.seat_views.specs.Rule.{Lanes, part_in}

-- every object has its start, and every lock the first stamp
pub record Begins (k : Opening) (words : List ℕ) : Type 0 where
  pub lanes : Lanes k.shape [] words
  pub locks : (l : ℕ) → l < k.shape.locks → slice_index words (lock_word k.shape l) ≡ k.first_stamp
  pub parts : (o l f n b i : ℕ) → place_of k.shape o ≡ Some (In l f n b) → i < n → part_in words f i ≡ part_of b i (start_of k.shape o)

-- the starts of the first k objects
abbrev pub start_below : Shape → ℕ → ℕ → ℕ
start_below S k o = if nat_lt o k then start_of S o else 0

-- the words, as far as the first k objects have their starts
pub record StartsSoFar (S : Shape) (words : List ℕ) (k : ℕ) : Type 0 where
  pub sized : length words ≡ 1 + S.words + S.locks
  pub quiet : slice_index words 0 ≡ 0
  pub lanes : (o w s d : ℕ) → place_of S o ≡ Some (Lane w s d) → slice_index words (data_word w) ≡ word_sum (strips_of S) 0 (start_below S k) w
  pub parts : (o l f n b i : ℕ) → o < k → place_of S o ≡ Some (In l f n b) → i < n → part_in words f i ≡ part_of b i (start_of S o)

-- the n words from one on are those of a function, and the others stay
pub record Puts (old : List ℕ) (from n : ℕ) (put : ℕ → ℕ) (new : List ℕ) : Type 0 where
  pub sized : length new ≡ length old
  pub done : (i : ℕ) → i < n → slice_index new (from + i) ≡ put i
  pub others : (x : ℕ) → (x < from) ⊎ (from + n ≤ x) → slice_index new x ≡ slice_index old x
