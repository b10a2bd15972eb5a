-- What the tests know of their objects, and of the items that a call adds.
use Rattle.std.specs.Prelude.{◌≡◌, ℕ, ◌+◌, false, List, ◌++◌, length}
use Rattle.op_table.specs.declared.kind.Width.TheVariants.{W128}
use Rattle.place_core.specs.declared.shape.Shape.{Shape}
use Rattle.place_core.specs.Shapes.{kind_of}
use Rattle.scalar_laws.specs.Kinds.{integer}
use Rattle.seat_views.specs.declared.view.Item.{Item}
use Rattle.seat_views.specs.Places.{HasParts, parts_of}
use Rattle.seat_views.specs.Items.{number_at}
use Rattle.seat_views.specs.StepCounts.{TakesAnd}
use Rattle.seat_views.specs.States.{PassState}

-- the object is a u128 in parts, and not in a section
pub record IsWide (S : Shape) (o : ℕ) : Type 0 where
  pub parts : HasParts S o
  pub kind : integer W128 false ≡ kind_of S o
  pub apart : S.section ≡ false

-- it has two parts
pub record IsWideOfTwo (S : Shape) (o : ℕ) : Type 0 where
  pub wide : IsWide S o
  pub two : parts_of S o ≡ 2

-- the first item that was added has this number
abbrev pub BeginsWith : ℕ → PassState → PassState → Type 0
BeginsWith n p q = number_at (length p.trail) q.trail ≡ n

-- these many items were added
abbrev pub Adds : ℕ → PassState → PassState → Type 0
Adds n p q = length q.trail ≡ length p.trail + n

-- takes, at least one, and these many other items were added
pub record AddsTakesAnd (others : ℕ) (p q : PassState) : Type 0 where
  pub steps : List Item
  pub trail : q.trail ≡ p.trail ++ steps
  pub count : TakesAnd others steps
