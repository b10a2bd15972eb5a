use Rattle.std.proofs.Common.{◌-◌}
use Rattle.op_table.specs.Kind.{values_of}
use Rattle.scalar_laws.specs.Kinds.{address}
use Rattle.update_table.specs.HandleBits.{handle_of, bits_of_handle}
use Rattle.seat_views.specs.Trials.{IsReady}
use Rattle.update_table.specs.Values.{answers_as, always}
use Rattle.update_table.proofs.Trying.{Trying}
use Rattle.update_table.proofs.handles.exchange_handles_always.Given as goal

abbrev pub invariant-loop : goal.invariant-loop
invariant-loop g l =
    (goal.iterator-loop g).can_next l.iterator' × (goal.iterator-loop g).is_finite l.iterator' × IsReady l.arena l.pass
    × Trying l.arena.shape l.atomic 0 (values_of address - 1) (answers_as handle_of bits_of_handle (always (goal.F-post g l.f))) l.fn.pass l.found.bits l.pass
