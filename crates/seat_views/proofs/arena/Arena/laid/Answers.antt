use Rattle.std.proofs.Common.{ap, refl}
use Rattle.atomic_table.specs.Table.{Me}
use Rattle.seat_views.specs.declared.view.View.{View}
use Rattle.seat_views.proofs.Landing.{opened}
use Rattle.seat_views.proofs.Openings.{opens, first_sound}
use Rattle.seat_views.proofs.arena.Arena.laid.Goals as goal

pub of_words-requires : goal.of_words-requires
of_words-requires c = opens _ _ c.requires.even c.requires.words

pub of-requires-clause-none : goal.of-requires-clause-none
of-requires-clause-none c = rw c.in_ok-table.ensures.4 (refl, refl, refl)

pub of-requires-clause-sound : goal.of-requires-clause-sound
of-requires-clause-sound c = rw c.in_ok-table.ensures.4 (first_sound c.args.opening)

pub returns : goal.returns
returns c = let e = c.in_ok-table.ensures in opened c.args.opening _ _ _ _ c.of.ensures e.2 (ap (λ (m : Me (Unit {0}) View). m.0) e.4)
