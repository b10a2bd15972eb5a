use Rattle.std.proofs.Common.{length, map}
use Rattle.std.specs.List.{AllByRecursion}
use Rattle.work_lang.specs.Streams.{WroteUpTo}
use Rattle.work_lang.specs.Workload.{LineFits}
use Rattle.work_lang.specs.Canonical.{ended_call_line}
use Rattle.work_lang.proofs.canonical.write_calls.Given as goal

abbrev pub invariant-calls : goal.invariant-calls
invariant-calls g l = record {
  fits : AllByRecursion (LineFits l.objects) l.lines;
  wrote : WroteUpTo g.K.Sink.taken g.K.Sink.faults g.K.Sink.tries g.K.Sink.whole l.fn.sink l.sink (map (ended_call_line l.objects) l.fn.lines) (map (ended_call_line l.objects) l.lines);
}

abbrev pub decreases-calls : goal.decreases-calls
decreases-calls g l = length l.lines
