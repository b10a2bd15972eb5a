use Rattle.top_call.proofs.Tries.{Consumes-after}
use Rattle.top_call.proofs.real.read_again.Goals as goal

pub returns-in-Ok-clause-bytes : goal.returns-in-Ok-clause-bytes
returns-in-Ok-clause-bytes g c = (Consumes-after _ _ _ _ c.tries.invariant c.in-Ok.ensures.bytes.0, c.in-Ok.ensures.bytes.1)
