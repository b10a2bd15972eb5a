use Rattle.std.proofs.Common.{◌+◌, ◌≤◌, length, map}
use Rattle.std.specs.List.{AllByRecursion}
use Rattle.place_core.specs.Pieces.{script_lines}
use Rattle.work_lang.specs.Streams.{WroteUpTo}
use Rattle.work_lang.specs.Workload.{LineFits}
use Rattle.report_text.specs.Report.{thread_lines, AnswerThreads, items_of}
use Rattle.report_text.proofs.reports.write_threads.Given as goal

abbrev pub invariant-threads : goal.invariant-threads
invariant-threads g l = record {
  count : l.number + length l.threads ≤ 65;
  fits : AllByRecursion (AllByRecursion (LineFits l.objects)) (map script_lines l.threads);
  answers : AnswerThreads l.objects (map script_lines l.threads) (map items_of l.replies);
  wrote : WroteUpTo g.K.Sink.taken g.K.Sink.faults g.K.Sink.tries g.K.Sink.whole l.fn.sink l.sink (thread_lines l.objects 1 (map script_lines l.fn.threads) (map items_of l.fn.replies)) (thread_lines l.objects l.number (map script_lines l.threads) (map items_of l.replies));
}

abbrev pub decreases-threads : goal.decreases-threads
decreases-threads g l = length l.threads
