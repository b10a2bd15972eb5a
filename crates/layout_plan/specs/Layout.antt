-- Where declared objects lie on a target: addresses in bytes, places in words, and the shape that they make.
use Rattle.std.specs.Prelude.{ℕ, ◌+◌, ◌-◌, ◌*◌, ◌/◌, ◌%◌, max, Bool, ◌&&◌, not, nat_le, if◌then◌else◌, List, [], ◌∷◌, slice_index}
use Rattle.std.specs.List.{AllByRecursion}
use Rattle.op_table.specs.declared.kind.Kind.{Kind}
use Rattle.op_table.specs.Kind.{bits_of, bytes_of}
use Rattle.target_desc.specs.declared.target.Target.{Target}
use Rattle.place_core.specs.declared.name.Declared.{Declared}
use Rattle.place_core.specs.DeclaredObjects.{IsDeclared}
use Rattle.place_core.specs.declared.places.Place.{Place}
use Rattle.place_core.specs.declared.places.Place.TheVariants.{Lane, Parts}
use Rattle.place_core.specs.declared.places.Object.{Object}
use Rattle.place_core.specs.declared.shape.Shape.{Shape}
use Rattle.place_core.specs.Shapes.{parts_for}

abbrev pub AreDeclared : List Declared → Type 0
AreDeclared xs = AllByRecursion IsDeclared xs

-- ---- addresses

-- the bytes of a target word
abbrev pub word_bytes : Target → ℕ
word_bytes t = t.word_bits / 8

-- an object's address is a multiple of this; where nothing is packed, an object begins a word
abbrev pub alignment_of : Target → Kind → ℕ
alignment_of t k = if t.packed then bytes_of k else max (bytes_of k) (word_bytes t)

-- the least multiple of a that is n or more
abbrev pub next_multiple : ℕ → ℕ → ℕ
next_multiple a n = (n + a - 1) / a * a

-- the address of an object that is placed next, where `after` is the place after the last
abbrev pub next_address : Target → ℕ → Kind → ℕ
next_address t after k = next_multiple (alignment_of t k) after

-- the place after that object
abbrev pub place_after : Target → ℕ → Kind → ℕ
place_after t after k = next_address t after k + bytes_of k

-- the addresses of the objects, in order
abbrev pub addresses_from : Target → ℕ → List Declared → List ℕ
addresses_from t after [] = []
addresses_from t after (x ∷ xs) = next_address t after x.kind ∷ addresses_from t (place_after t after x.kind) xs

-- the place after the last object
abbrev pub end_from : Target → ℕ → List Declared → ℕ
end_from t after [] = after
end_from t after (x ∷ xs) = end_from t (place_after t after x.kind) xs

-- the address of object o; 0 where there is none
abbrev pub address_of : Target → List Declared → ℕ → ℕ
address_of t xs o = slice_index (addresses_from t 0 xs) o

-- ---- places

-- an object has a lane where its value fits a word, unless each call is a critical section
abbrev pub has_lane : Target → Kind → Bool
has_lane t k = not t.section && nat_le (bits_of k.width) t.word_bits

-- the lowest bit of the lane at an address where objects share words: a target word is in the high bits of its table
-- word, its first byte lowest, and highest where `big` holds
abbrev pub packed_shift : Target → Kind → ℕ → ℕ
packed_shift t k a = if t.big then 64 - 8 * (a % word_bytes t) - 8 * bytes_of k else 64 - t.word_bits + 8 * (a % word_bytes t)

-- the lowest bit of the lane at an address; an object that is alone in its word is at the top
abbrev pub shift_at : Target → Kind → ℕ → ℕ
shift_at t k a = if t.packed then packed_shift t k a else 64 - bits_of k.width

-- where an object at an address lies
abbrev pub place_at : Target → Kind → ℕ → Place
place_at t k a = if has_lane t k then Lane (a / word_bytes t) (shift_at t k a) (bits_of k.width)
    else Parts (a % t.locks) (a / word_bytes t) (parts_for (bits_of k.width) t.word_bits) t.word_bits

abbrev pub laid_at : Target → Declared → ℕ → Object
laid_at t x a = record { kind = x.kind; place = place_at t x.kind a; start = x.start }

-- the objects, in order
abbrev pub objects_from : Target → ℕ → List Declared → List Object
objects_from t after [] = []
objects_from t after (x ∷ xs) = laid_at t x (next_address t after x.kind) ∷ objects_from t (place_after t after x.kind) xs

-- ---- the shape

-- the words of so many bytes: divided by a word's, rounded up
abbrev pub words_for : Target → ℕ → ℕ
words_for t bytes = (bytes + word_bytes t - 1) / word_bytes t

-- the shape of objects on a target
abbrev pub shape_of : Target → List Declared → Shape
shape_of t xs = record {
  word_bits = t.word_bits;
  steps = t.steps;
  section = t.section;
  words = words_for t (end_from t 0 xs);
  locks = t.locks;
  objects = objects_from t 0 xs;
}
