use Rattle.seq_lock.proofs.LockedCalls.{taken_made}
use Rattle.seq_lock.proofs.calls.found_locked.Goals as goal

pub returns-clause-made : goal.returns-clause-made
returns-clause-made g c = taken_made _ _ _ _ _ _ _ _ c.take.ensures c.held_call.ensures.made
