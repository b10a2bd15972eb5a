-- What `shape_ok` tests, step by step: sizes, then each object, then that objects are apart, by spans of bits.
use Rattle.std.specs.Prelude.{◌≡◌, ◌⊎◌, ℕ, ◌+◌, ◌*◌, ◌/◌, ◌%◌, ◌^◌, ◌<◌, ◌≤◌, Bool, true, ◌&&◌, nat_le, List, [], ◌∷◌, length, map, Option, Some, None, slice_get, slice_index}
use Rattle.std.specs.List.{All, AllByRecursion}
use Rattle.op_table.specs.Kind.{values_of, IsKind}
use Rattle.op_table.specs.Limits.{most_locks}
use Rattle.place_core.specs.declared.places.Place.{Place}
use Rattle.place_core.specs.declared.places.Place.TheVariants.{Lane, Parts}
use Rattle.place_core.specs.declared.places.Object.{Object}
use Rattle.place_core.specs.declared.shape.Shape.{Shape}
use Rattle.place_core.specs.Shapes.{IsPlaced, IsInSection, most_in_shape}

-- word size, words, locks and the number of objects are within their limits
pub record IsSized (S : Shape) : Type 0 where
  pub bits : (S.word_bits ≡ 32) ⊎ (S.word_bits ≡ 64)
  pub words : S.words ≤ 2 ^ 24
  pub some_lock : 1 ≤ S.locks
  pub locks : S.locks ≤ most_locks
  pub objects : length S.objects ≤ most_in_shape

-- the object may be one of the shape
pub record IsObject (S : Shape) (a : Object) : Type 0 where
  pub kind : IsKind a.kind
  pub start : a.start < values_of a.kind
  pub placed : IsPlaced S a.kind a.place
  pub section : S.section ≡ true → IsInSection a.place

-- the first bit of a place, counted over all data words
abbrev pub first_bit : Place → ℕ
first_bit (Lane w s d) = w * 64 + s
first_bit (Parts l f n b) = f * 64

-- the bit after the last
abbrev pub end_bit : Place → ℕ
end_bit (Lane w s d) = w * 64 + s + d
end_bit (Parts l f n b) = (f + n) * 64

-- both in one number: the first bit in the high half, the bit after the last in the low half
abbrev pub span_of : Place → ℕ
span_of a = first_bit a * 2 ^ 32 + end_bit a

abbrev pub span_in : Option Object → ℕ
span_in None = 0
span_in (Some a) = span_of a.place

abbrev pub spans_of : List Object → List ℕ
spans_of objects = map (λ (a : Object). span_of a.place) objects

-- it begins before it ends
abbrev pub IsSpan : ℕ → Type 0
IsSpan x = x / 2 ^ 32 < x % 2 ^ 32

-- one of the spans ends before the other begins
abbrev pub ApartSpans : ℕ → ℕ → Type 0
ApartSpans x y = (x % 2 ^ 32 ≤ y / 2 ^ 32) ⊎ (y % 2 ^ 32 ≤ x / 2 ^ 32)

-- any two objects have spans that are apart
abbrev pub AllApart : List Object → Type 0
AllApart objects = (o p : ℕ) → o < p → p < length objects → ApartSpans (span_in (slice_get objects o)) (span_in (slice_get objects p))

-- a span is apart from each of these
abbrev pub IsFree : ℕ → List ℕ → Type 0
IsFree x spans = All (ApartSpans x) spans

-- and so is the span of each object
abbrev pub AreFree : List Object → List ℕ → Type 0
AreFree objects spans = AllByRecursion (λ (a : Object). IsFree (span_of a.place) spans) objects

-- a span begins behind the last of these, where there is one
abbrev pub IsBehind : ℕ → List ℕ → Type 0
IsBehind x spans = (k : ℕ) → k + 1 ≡ length spans → slice_index spans k % 2 ^ 32 ≤ x / 2 ^ 32

-- the span ends before the next begins, where there is one
abbrev pub is_before : ℕ → List ℕ → Bool
is_before x [] = true
is_before x (y ∷ ys) = nat_le (x % 2 ^ 32) (y / 2 ^ 32)

-- each span ends before the next begins
abbrev pub are_in_row : List ℕ → Bool
are_in_row [] = true
are_in_row (x ∷ xs) = is_before x xs && are_in_row xs
