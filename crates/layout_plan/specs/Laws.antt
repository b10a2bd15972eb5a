-- Laws of layout and plans, as the module `laws` proves them.
use Rattle.std.specs.Prelude.{◌≡◌, ◌↔◌, ℕ, ◌+◌, ◌%◌, ◌<◌, ◌≤◌, false, List, length, Some, slice_get}
use Rattle.op_table.specs.declared.call.Call.{Call}
use Rattle.op_table.specs.Kind.{bits_of, bytes_of}
use Rattle.target_desc.specs.declared.target.Target.{Target}
use Rattle.target_desc.specs.Target.{IsTarget}
use Rattle.place_core.specs.declared.name.Declared.{Declared}
use Rattle.place_core.specs.DeclaredObjects.{cells_of}
use Rattle.place_core.specs.declared.places.Place.TheVariants.{Lane, Parts}
use Rattle.place_core.specs.declared.places.Path.TheVariants.{One}
use Rattle.place_core.specs.declared.places.WordOp.{WordOp}
use Rattle.place_core.specs.declared.shape.Shape.{Shape}
use Rattle.place_core.specs.Shapes.{place_of, kind_of, start_of, cells_of_shape, IsShape, most_in_shape}
use Rattle.place_core.specs.Operations.{OpServes, plan_of}
use Rattle.layout_plan.specs.Layout.{AreDeclared, alignment_of, address_of, place_at, shape_of}

-- what is laid is a shape
abbrev pub LaidIsShape : Type 0
LaidIsShape = (t : Target) (xs : List Declared) → IsTarget t → AreDeclared xs → length xs ≤ most_in_shape → IsShape (shape_of t xs)

-- object o of a laid shape is declared object o, placed at its address
abbrev pub LaidIsDeclared : Type 0
LaidIsDeclared = (t : Target) (xs : List Declared) (o : ℕ) (x : Declared) → slice_get xs o ≡ Some x
    → (place_of (shape_of t xs) o ≡ Some (place_at t x.kind (address_of t xs o))) × (kind_of (shape_of t xs) o ≡ x.kind) × (start_of (shape_of t xs) o ≡ x.start)

-- and there are no other objects: the cells of a laid shape are the declared kinds and starts
abbrev pub LaidHasCells : Type 0
LaidHasCells = (t : Target) (xs : List Declared) → cells_of_shape (shape_of t xs) ≡ cells_of xs

-- the object has a lane
pub record HasLane (S : Shape) (o : ℕ) : Type 0 where
  pub word : ℕ
  pub shift : ℕ
  pub width : ℕ
  pub lane : place_of S o ≡ Some (Lane word shift width)

-- an object has a lane exactly where calls are no critical sections and a word has its bits
abbrev pub LaneIsNarrow : Type 0
LaneIsNarrow = (t : Target) (xs : List Declared) (o : ℕ) (x : Declared) → slice_get xs o ≡ Some x
    → HasLane (shape_of t xs) o ↔ ((t.section ≡ false) × (bits_of x.kind.width ≤ t.word_bits))

-- the lock of an object with parts is its address modulo the number of locks
abbrev pub LockIsAddress : Type 0
LockIsAddress = (t : Target) (xs : List Declared) (o l f n b : ℕ) → place_of (shape_of t xs) o ≡ Some (Parts l f n b) → l ≡ address_of t xs o % t.locks

-- an address is a multiple of its object's alignment
abbrev pub AddressIsAligned : Type 0
AddressIsAligned = (t : Target) (xs : List Declared) (o : ℕ) (x : Declared) → IsTarget t → slice_get xs o ≡ Some x → address_of t xs o % alignment_of t x.kind ≡ 0

-- objects lie in declared order, and share no byte
abbrev pub AddressesRise : Type 0
AddressesRise = (t : Target) (xs : List Declared) (o p : ℕ) (x y : Declared) → IsTarget t → slice_get xs o ≡ Some x → slice_get xs p ≡ Some y → o < p → address_of t xs o + bytes_of x.kind ≤ address_of t xs p

-- where one step makes a call, it is the step that makes it there
abbrev pub OneServes : Type 0
OneServes = (S : Shape) (o : ℕ) (call : Call) (done : WordOp) → plan_of S o call ≡ One done → OpServes S o call done
