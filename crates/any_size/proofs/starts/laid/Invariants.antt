use Rattle.any_size.specs.Starts.{LaidSoFar, SpotsSoFar}
use Rattle.any_size.proofs.starts.laid.Given as goal

abbrev pub invariant-loop-i : goal.invariant-loop-i
invariant-loop-i l = LaidSoFar l.starts l.locks l.words.items l.i × SpotsSoFar l.starts l.locks l.spots.items l.i
