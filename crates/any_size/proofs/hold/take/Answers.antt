use Rattle.any_size.proofs.CallParts.{trying_more}
use Rattle.std.proofs.Common.{rules}
use Rattle.any_size.proofs.hold.take.Goals as goal

pub loop-preserved : goal.loop-preserved
loop-preserved g c = (tt, tt, trying_more _ _ _ _ _ c.loop.invariant.2 (search rules))
