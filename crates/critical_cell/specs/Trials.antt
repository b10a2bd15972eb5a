-- What the tests know of their object.
use Rattle.std.specs.Prelude.{◌≡◌, ◌<◌, length, true, false}
use Rattle.op_table.specs.declared.kind.Width.TheVariants.{W8}
use Rattle.place_core.specs.declared.shape.Shape.{Shape}
use Rattle.place_core.specs.Shapes.{kind_of}
use Rattle.scalar_laws.specs.Kinds.{integer}

-- object 0 is a u8 of a section
pub record IsByte (S : Shape) : Type 0 where
  pub there : 0 < length S.objects
  pub kind : integer W8 false ≡ kind_of S 0
  pub section : S.section ≡ true
