use Rattle.std.proofs.Common.{refl}
use Rattle.op_table.specs.declared.call.Call.TheVariants.{Load}
use Rattle.seq_lock.proofs.LockedCalls.{took_clean, may_leave}
use Rattle.wide_cell.proofs.trials.hold_beside.Goals as goal

pub release_same-reply-requires-clause-hold : goal.release_same-reply-requires-clause-hold
release_same-reply-requires-clause-hold g c = may_leave _ _ Load _ _ _ (took_clean _ _ _ _ _ c.take.ensures) c.held_value-value.ensures refl
