use Rattle.std.proofs.Common.{rules}
use Rattle.std.specs.Vec.Iter.{into_iter_items}
use Rattle.whole_run.proofs.Taking.{takes_start, takes_more}
use Rattle.whole_run.proofs.taken.take_all_back.Goals as goal

pub loop-worker-init : goal.loop-worker-init
loop-worker-init c = takes_start c.args.arena.now c.args.workers.items (into_iter_items c.into_iter-worker-iterator.result) c.args.taken c.args.root.now (search rules) c.requires.root c.requires.kept c.requires.done c.requires.scripts c.requires.replies c.requires.room

pub loop-worker-preserved : goal.loop-worker-preserved
loop-worker-preserved c =
    takes_more c.args.arena.now c.args.workers.items (into_iter_items c.loop-worker.worker-iterator) (into_iter_items c.next.new.self) c.in-Some.worker c.loop-worker.taken c.add.new.self c.loop-worker.root c.take_back.new.self
    c.loop-worker.invariant c.in-Some.ensures.steps.0 c.take_back.ensures c.add.ensures.scripts c.add.ensures.replies c.add.ensures.room
