use Rattle.seq_lock.proofs.LockedCalls.{took_once}
use Rattle.seq_lock.proofs.holds.try_take.Goals as goal

pub returns : goal.returns
returns c = took_once _ _ _ _ _ _ c.step_take.ensures
