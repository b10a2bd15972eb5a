use Rattle.std.proofs.Common.{◌-◌, ◌≤◌, length, drop, map}
use Rattle.work_lang.specs.Streams.{WroteUpTo}
use Rattle.report_text.specs.Report.{last_lines}
use Rattle.report_text.specs.Many.{value_replied}
use Rattle.report_text.proofs.many.write_values.Given as goal

abbrev pub invariant-objects : goal.invariant-objects
invariant-objects g l = record {
  within : l.i ≤ length l.last.items;
  wrote : WroteUpTo g.K.Sink.taken g.K.Sink.faults g.K.Sink.tries g.K.Sink.whole l.fn.sink l.sink (last_lines l.objects l.last.items (map value_replied l.last.items))
      (last_lines (drop l.i l.objects) (drop l.i l.last.items) (drop l.i (map value_replied l.last.items)));
}

abbrev pub decreases-objects : goal.decreases-objects
decreases-objects g l = length l.last.items - l.i
