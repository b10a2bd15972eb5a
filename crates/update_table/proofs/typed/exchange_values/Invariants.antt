use Rattle.std.proofs.Common.{◌-◌}
use Rattle.op_table.specs.Kind.{values_of}
use Rattle.seat_views.specs.Trials.{IsReady}
use Rattle.update_table.specs.Values.{answers_as, always}
use Rattle.update_table.proofs.Trying.{Trying}
use Rattle.update_table.proofs.typed.exchange_values.Given as goal

abbrev pub invariant-loop : goal.invariant-loop
invariant-loop g l =
    (goal.iterator-loop g).can_next l.iterator' × (goal.iterator-loop g).is_finite l.iterator' × IsReady l.arena l.pass
    × Trying l.arena.shape l.atomic 0 (values_of g.V.Scalar.KIND - 1) (answers_as g.V.Scalar.of_bits g.V.Scalar.bits (goal.F-post g l.f)) l.fn.pass (g.V.Scalar.bits l.found) l.pass
