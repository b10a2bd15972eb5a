use Rattle.std.proofs.Common.{length}
use Rattle.std.specs.List.{flat_map, AllByRecursion}
use Rattle.work_lang.specs.Streams.{WroteUpTo}
use Rattle.work_lang.specs.Workload.{PieceStands}
use Rattle.work_lang.specs.Canonical.{thread_lines}
use Rattle.work_lang.proofs.canonical.write_threads.Given as goal

abbrev pub invariant-threads : goal.invariant-threads
invariant-threads g l = record {
  stand : AllByRecursion (AllByRecursion (PieceStands 2 l.objects)) l.threads;
  wrote : WroteUpTo g.K.Sink.taken g.K.Sink.faults g.K.Sink.tries g.K.Sink.whole l.fn.sink l.sink (flat_map (thread_lines l.objects) l.fn.threads) (flat_map (thread_lines l.objects) l.threads);
}

abbrev pub decreases-threads : goal.decreases-threads
decreases-threads g l = length l.threads
