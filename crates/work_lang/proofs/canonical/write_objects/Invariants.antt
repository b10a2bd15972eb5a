use Rattle.std.proofs.Common.{◌-◌, ◌≤◌, length, drop, map}
use Rattle.work_lang.specs.Streams.{WroteUpTo}
use Rattle.work_lang.specs.Canonical.{object_line}
use Rattle.work_lang.proofs.canonical.write_objects.Given as goal

abbrev pub invariant-objects : goal.invariant-objects
invariant-objects g l = record {
  within : l.i ≤ length l.objects;
  wrote : WroteUpTo g.K.Sink.taken g.K.Sink.faults g.K.Sink.tries g.K.Sink.whole l.fn.sink l.sink (map object_line l.objects) (map object_line (drop l.i l.objects));
}

abbrev pub decreases-objects : goal.decreases-objects
decreases-objects g l = length l.objects - l.i
