use Rattle.std.proofs.Common.{sym, ◌∙◌}
use Rattle.seq_lock.proofs.LockedPaths.{straight_else, locked_call}
use Rattle.wide_cell.proofs.CallPaths.{hit_call, missed_call}
use Rattle.wide_cell.proofs.cell.call.Goals as goal

pub returns-in-Ok : goal.returns-in-Ok
returns-in-Ok g c = hit_call _ _ c.requires.object _ _ _ _ c.requires.apart (sym c.is_load.ensures ∙ c.if-is_load.true) c.in-Ok.ensures.hit

pub returns-in-Err : goal.returns-in-Err
returns-in-Err g c = missed_call _ _ c.requires.object _ _ _ _ _ _ c.requires.apart (sym c.is_load.ensures ∙ c.if-is_load.true) c.in-Err.ensures.missed c.locked.ensures

pub returns : goal.returns
returns g c = locked_call _ _ c.requires.object _ _ _ _ (straight_else _ _ (sym c.is_load.ensures ∙ c.if-is_load.false)) c.locked-2.ensures
