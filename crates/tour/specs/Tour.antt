-- What the tour's functions need of passes and objects.
use Rattle.std.specs.Prelude.{false}
use Rattle.op_table.specs.declared.kind.Width.TheVariants.{W16, W128}
use Rattle.scalar_laws.specs.Kinds.{address, integer, truth}
use Rattle.place_core.specs.declared.shape.Shape.{Shape}
use Rattle.seat_views.specs.States.{ArenaState, IsNoteOf}
use Rattle.atomic_types.specs.Atomics.{HasAtomic}
use Rattle.tour.specs.declared.shared.Shared.{Shared}
use Rattle.tour.specs.declared.visits.Seen.{Seen}

-- each object is there, and is of its type's kind
pub record AreOn (S : Shape) (s : Shared) : Type 0 where
  pub ready : HasAtomic S truth s.ready
  pub hits : HasAtomic S (integer W16 false) s.hits
  pub id : HasAtomic S (integer W128 false) s.id
  pub next : HasAtomic S address s.next

-- the notes of two threads are of the arena
abbrev pub HaveNotes : ArenaState → Seen × Seen → Type 0
HaveNotes a seen = IsNoteOf a seen.0.note × IsNoteOf a seen.1.note
