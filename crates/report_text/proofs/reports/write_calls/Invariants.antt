use Rattle.std.proofs.Common.{drop}
use Rattle.std.specs.List.{AllByRecursion}
use Rattle.place_core.specs.Pieces.{script_lines}
use Rattle.work_lang.specs.Streams.{WroteUpTo}
use Rattle.work_lang.specs.Workload.{LineFits}
use Rattle.report_text.specs.CallTexts.{IsTextOf}
use Rattle.report_text.specs.Report.{reply_lines, AnswerLines}
use Rattle.report_text.proofs.reports.write_calls.Given as goal

abbrev pub invariant-calls : goal.invariant-calls
invariant-calls g l = record {
  fits : AllByRecursion (LineFits l.objects) l.lines;
  answers : AnswerLines l.objects l.lines (drop l.i l.replies.items);
  text : IsTextOf l.objects l.call;
  wrote : WroteUpTo g.K.Sink.taken g.K.Sink.faults g.K.Sink.tries g.K.Sink.whole l.fn.sink l.sink (reply_lines l.objects (script_lines l.script) l.replies.items) (reply_lines l.objects l.lines (drop l.i l.replies.items));
}
