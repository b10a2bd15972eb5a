-- What the timed calls need of the objects.
use Rattle.std.specs.Prelude.{false}
use Rattle.op_table.specs.declared.kind.Width.TheVariants.{W8, W64, W128}
use Rattle.scalar_laws.specs.Kinds.{integer}
use Rattle.place_core.specs.declared.shape.Shape.{Shape}
use Rattle.atomic_types.specs.Atomics.{HasAtomic}
use Rattle.call_times.specs.declared.shared.Shared.{Shared}

-- each object is there, and is of its type's kind
pub record AreOn (S : Shape) (s : Shared) : Type 0 where
  pub wide : HasAtomic S (integer W64 false) s.wide
  pub small : HasAtomic S (integer W8 false) s.small
  pub pair : HasAtomic S (integer W128 false) s.pair
