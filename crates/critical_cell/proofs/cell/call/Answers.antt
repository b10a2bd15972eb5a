use Rattle.seq_lock.proofs.LockedPaths.{straight, locked_call}
use Rattle.critical_cell.proofs.cell.call.Goals as goal

pub returns : goal.returns
returns g c = locked_call _ _ c.in_section.ensures _ _ _ _ (straight _ _ c.requires.section) c.locked.ensures
