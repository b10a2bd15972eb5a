-- Shapes: where objects lie, and which shapes are valid.
use Rattle.std.specs.Prelude.{◌≡◌, ◌≢◌, ◌⊎◌, ℕ, ◌+◌, ◌-◌, ◌/◌, ◌^◌, ◌<◌, ◌≤◌, ◌==◌, Bool, true, false, List, length, map, Option, Some, None, slice_get}
use Rattle.op_table.specs.declared.kind.Kind.{Kind}
use Rattle.op_table.specs.declared.kind.Width.TheVariants.{W1}
use Rattle.op_table.specs.declared.kind.Class.TheVariants as class
use Rattle.op_table.specs.Kind.{bits_of, values_of, IsKind}
use Rattle.op_table.specs.Limits.{most_locks}
use Rattle.place_core.specs.declared.entry.Entry.{Entry}
use Rattle.place_core.specs.declared.places.Place.{Place}
use Rattle.place_core.specs.declared.places.Place.TheVariants.{Lane, Parts}
use Rattle.place_core.specs.declared.places.Object.{Object}
use Rattle.place_core.specs.declared.shape.Shape.{Shape}
use Rattle.place_core.specs.Cells.{Cell, value_of}
use Rattle.place_core.specs.WordSums.{Strip, lanes_in, word_sum}

-- ---- what a shape has under an object's number

abbrev pub place_in : Option Object → Option Place
place_in None = None
place_in (Some a) = Some a.place

abbrev pub kind_in : Option Object → Kind
kind_in None = record { width = W1; signed = false; class = class.Bool }
kind_in (Some a) = a.kind

abbrev pub start_in : Option Object → ℕ
start_in None = 0
start_in (Some a) = a.start

-- where object o lies; none where there is no such object
abbrev pub place_of : Shape → ℕ → Option Place
place_of S o = place_in (slice_get S.objects o)

-- the kind of object o; where there is none a bool is meant
abbrev pub kind_of : Shape → ℕ → Kind
kind_of S o = kind_in (slice_get S.objects o)

-- the value that object o begins with; 0 where there is none
abbrev pub start_of : Shape → ℕ → ℕ
start_of S o = start_in (slice_get S.objects o)

-- the objects without where they lie
abbrev pub cells_of_shape : Shape → List Cell
cells_of_shape S = map (λ (a : Object). record { kind = a.kind; start = a.start }) S.objects

-- ---- lanes and their words

-- the lane that a place is
abbrev pub strip_of : Place → Option Strip
strip_of (Lane w s d) = Some (record { word = w; shift = s; width = d })
strip_of (Parts l f n b) = None

-- of each object its lane, where it has one
abbrev pub strips_of : Shape → List (Option Strip)
strips_of S = map (λ (a : Object). strip_of a.place) S.objects

-- data word w after a history: the sum of its lanes' values, each at its lowest bit
abbrev pub word_of : Shape → List Entry → ℕ → ℕ
word_of S H w = word_sum (strips_of S) 0 (value_of (cells_of_shape S) H) w

-- word w has one lane
abbrev pub is_sole : Shape → ℕ → Bool
is_sole S w = lanes_in (strips_of S) w == 1

-- ---- valid shapes

-- the number of parts that just suffice for a value: its bits divided by a part's, rounded up
abbrev pub parts_for : ℕ → ℕ → ℕ
parts_for bits part_bits = (bits + part_bits - 1) / part_bits

-- a lane has its kind's width, ends at bit 64 or below, and lies in a data word
pub record IsLane (S : Shape) (k : Kind) (w s d : ℕ) : Type 0 where
  pub wide : d ≡ bits_of k.width
  pub ends : s + d ≤ 64
  pub within : w < S.words

-- parts have the bits of a target word and just suffice, and lie in data words under a lock
pub record IsParts (S : Shape) (k : Kind) (l f n b : ℕ) : Type 0 where
  pub bits : b ≡ S.word_bits
  pub suffice : n ≡ parts_for (bits_of k.width) b
  pub within : f + n ≤ S.words
  pub lock : l < S.locks

abbrev pub IsPlaced : Shape → Kind → Place → Type 0
IsPlaced S k (Lane w s d) = IsLane S k w s d
IsPlaced S k (Parts l f n b) = IsParts S k l f n b

-- two places share no bit: lanes of one word lie beside each other, and a part's word is of no other object
abbrev pub AreApart : Place → Place → Type 0
AreApart (Lane w s d) (Lane v t e) = w ≡ v → (s + d ≤ t) ⊎ (t + e ≤ s)
AreApart (Lane w s d) (Parts k g m c) = (w < g) ⊎ (g + m ≤ w)
AreApart (Parts l f n b) (Lane v t e) = (v < f) ⊎ (f + n ≤ v)
AreApart (Parts l f n b) (Parts k g m c) = (f + n ≤ g) ⊎ (g + m ≤ f)

-- parts under lock 0
abbrev pub IsInSection : Place → Type 0
IsInSection (Lane w s d) = ⊥
IsInSection (Parts l f n b) = l ≡ 0

-- the objects of a shape
abbrev pub most_in_shape : ℕ
most_in_shape = 65536

-- what `shape_ok` tests
pub record IsShape (S : Shape) : Type 0 where
  pub bits : (S.word_bits ≡ 32) ⊎ (S.word_bits ≡ 64)
  pub words : S.words ≤ 2 ^ 24
  pub some_lock : 1 ≤ S.locks
  pub locks : S.locks ≤ most_locks
  pub objects : length S.objects ≤ most_in_shape
  pub kinds : (o : ℕ) → IsKind (kind_of S o)
  pub starts : (o : ℕ) → start_of S o < values_of (kind_of S o)
  pub placed : (o : ℕ) (a : Place) → place_of S o ≡ Some a → IsPlaced S (kind_of S o) a
  pub apart : (o p : ℕ) (a b : Place) → place_of S o ≡ Some a → place_of S p ≡ Some b → o ≢ p → AreApart a b
  pub section : S.section ≡ true → (o : ℕ) (a : Place) → place_of S o ≡ Some a → IsInSection a

-- ---- the words of an arena's table: word 0, which is quiet, the data words, and the locks

abbrev pub data_word : ℕ → ℕ
data_word w = 1 + w

abbrev pub lock_word : Shape → ℕ → ℕ
lock_word S l = 1 + S.words + l
