-- Where the words of an object are.
use Rattle.std.specs.Prelude.{◌≡◌, ℕ, ◌+◌, ◌/◌, ◌%◌, ◌^◌, List, Option, Some, None}
use Rattle.place_core.specs.declared.entry.Entry.{Entry}
use Rattle.place_core.specs.declared.places.Place.{Place}
use Rattle.place_core.specs.declared.places.Place.TheVariants.{Lane, Parts}
use Rattle.place_core.specs.declared.shape.Shape.{Shape}
use Rattle.place_core.specs.Cells.{value_of, IsLegal}
use Rattle.place_core.specs.Shapes.{place_of, cells_of_shape, data_word, lock_word}

-- the value of object o after a history
abbrev pub value_after : Shape → List Entry → ℕ → ℕ
value_after S log o = value_of (cells_of_shape S) log o

abbrev pub IsLegalIn : Shape → List Entry → Type 0
IsLegalIn S log = IsLegal (cells_of_shape S) log

-- ---- lanes

abbrev pub data_in : Option Place → ℕ
data_in None = 0
data_in (Some (Lane w s d)) = w
data_in (Some (Parts l f n b)) = 0

abbrev pub shift_in : Option Place → ℕ
shift_in None = 0
shift_in (Some (Lane w s d)) = s
shift_in (Some (Parts l f n b)) = 0

abbrev pub width_in : Option Place → ℕ
width_in None = 0
width_in (Some (Lane w s d)) = d
width_in (Some (Parts l f n b)) = 0

-- the data word with an object's lane, and its word in the table
abbrev pub data_of_lane : Shape → ℕ → ℕ
data_of_lane S o = data_in (place_of S o)

abbrev pub word_of_lane : Shape → ℕ → ℕ
word_of_lane S o = data_word (data_of_lane S o)

-- the bits of an object's lane in a word
abbrev pub lane_at : Shape → ℕ → ℕ → ℕ
lane_at S o n = n / 2 ^ shift_in (place_of S o) % 2 ^ width_in (place_of S o)

-- ---- parts

abbrev pub lock_in : Option Place → ℕ
lock_in None = 0
lock_in (Some (Lane w s d)) = 0
lock_in (Some (Parts l f n b)) = l

abbrev pub first_in : Option Place → ℕ
first_in None = 0
first_in (Some (Lane w s d)) = 0
first_in (Some (Parts l f n b)) = f

abbrev pub count_in : Option Place → ℕ
count_in None = 0
count_in (Some (Lane w s d)) = 0
count_in (Some (Parts l f n b)) = n

-- the object has parts
pub record HasParts (S : Shape) (o : ℕ) : Type 0 where
  pub lock : ℕ
  pub first : ℕ
  pub count : ℕ
  pub bits : ℕ
  pub place : place_of S o ≡ Some (Parts lock first count bits)

-- how many parts an object has; none where it has a lane
abbrev pub parts_of : Shape → ℕ → ℕ
parts_of S o = count_in (place_of S o)

-- the table's words with an object's lock and with its part i
abbrev pub word_of_lock : Shape → ℕ → ℕ
word_of_lock S o = lock_word S (lock_in (place_of S o))

abbrev pub word_of_part : Shape → ℕ → ℕ → ℕ
word_of_part S o i = data_word (first_in (place_of S o) + i)
