use Rattle.std.specs.Vec.Iter.{into_iter_items}
use Rattle.whole_run.proofs.Taking.{TakesSoFar}
use Rattle.whole_run.proofs.taken.take_all_back.Given as goal

abbrev pub invariant-loop-worker : goal.invariant-loop-worker
invariant-loop-worker l = TakesSoFar l.arena l.fn.workers.items (into_iter_items l.worker-iterator) l.taken l.root
