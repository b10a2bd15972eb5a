use Rattle.std.proofs.Common.{arith, subst}
use Rattle.std.specs.List.{AllByRecursion}
use Rattle.work_lang.specs.Workload.{PieceStands}
use Rattle.work_lang.proofs.Firsts.{item_others}
use Rattle.work_lang.proofs.Pieces.{wrote_more, wrote_stops}
use Rattle.work_lang.proofs.CanonicalSteps.{thread_first}
use Rattle.work_lang.proofs.canonical.write_threads.Goals as goal

pub write_thread-requires-clause-stands : goal.write_thread-requires-clause-stands
write_thread-requires-clause-stands g c = (subst (AllByRecursion (AllByRecursion (PieceStands 2 c.args.objects.now))) (item_others c.threads.threads.now c.script-item.result (omega arith) c.script-item.is) c.threads.invariant.stand).0

pub returns-in-Err : goal.returns-in-Err
returns-in-Err g c = wrote_stops _ (thread_first c.args.objects.now c.threads.threads.now c.script-item.result (omega arith) c.script-item.is) c.in-Err.is c.threads.invariant.wrote c.write_thread.ensures

pub threads-preserved : goal.threads-preserved
threads-preserved g c = record {
  stand = (subst (AllByRecursion (AllByRecursion (PieceStands 2 c.args.objects.now))) (item_others c.threads.threads.now c.script-item.result (omega arith) c.script-item.is) c.threads.invariant.stand).1;
  wrote = wrote_more (thread_first c.args.objects.now c.threads.threads.now c.script-item.result (omega arith) c.script-item.is) c.in-Ok.is c.threads.invariant.wrote c.write_thread.ensures;
}
