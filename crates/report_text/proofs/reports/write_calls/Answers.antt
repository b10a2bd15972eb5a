use Rattle.std.proofs.Common.{subst, arith}
use Rattle.std.specs.List.{AllByRecursion}
use Rattle.place_core.specs.Pieces.{script_lines}
use Rattle.work_lang.specs.Workload.{LineFits}
use Rattle.work_lang.proofs.Pieces.{wrote_more, wrote_stops, wrote_all}
use Rattle.report_text.specs.Report.{reply_lines}
use Rattle.report_text.proofs.LineKinds.{line_said}
use Rattle.report_text.proofs.LineSteps.{reply_lines_next, answers_next, no_line, no_reply}
use Rattle.report_text.proofs.reports.write_calls.Goals as goal

-- there is a line for each reply
pub unreachable-requires : goal.unreachable-requires
unreachable-requires g c =
    let none = c.in_default.ensures {u = tt} in
    omega (arith, no_line c.args.objects.now c.calls.lines c.args.replies.now.items c.calls.i none.line c.calls.invariant.answers)

pub write_reply-requires-clause-line : goal.write_reply-requires-clause-line
write_reply-requires-clause-line g c =
    line_said c.args.objects.now c.in-Some.line.now c.requires.sound (subst (λ ls. AllByRecursion (LineFits c.args.objects.now) ls) c.in-Some.ensures.line c.calls.invariant.fits).0

pub write_reply-requires-clause-fits : goal.write_reply-requires-clause-fits
write_reply-requires-clause-fits g c =
    (answers_next c.args.objects.now c.calls.lines c.next.new.self c.args.replies.now.items c.calls.i c.in-Some.line.now c.at.result.now c.in-Some.ensures.line c.at.ensures c.calls.invariant.answers).0

pub returns-in-Err : goal.returns-in-Err
returns-in-Err g c =
    let step = reply_lines_next c.args.objects.now c.calls.lines c.next.new.self c.args.replies.now.items c.calls.i c.in-Some.line.now c.at.result.now c.in-Some.ensures.line c.at.ensures in
    wrote_stops {lines = reply_lines c.args.objects.now (script_lines c.args.script.now) c.args.replies.now.items} _ step c.in-Err.is c.calls.invariant.wrote c.write_reply.ensures.wrote

pub calls-preserved : goal.calls-preserved
calls-preserved g c =
    let step = reply_lines_next c.args.objects.now c.calls.lines c.next.new.self c.args.replies.now.items c.calls.i c.in-Some.line.now c.at.result.now c.in-Some.ensures.line c.at.ensures in
    record {
      fits = (subst (λ ls. AllByRecursion (LineFits c.args.objects.now) ls) c.in-Some.ensures.line c.calls.invariant.fits).1;
      answers = (answers_next c.args.objects.now c.calls.lines c.next.new.self c.args.replies.now.items c.calls.i c.in-Some.line.now c.at.result.now c.in-Some.ensures.line c.at.ensures c.calls.invariant.answers).1;
      text = c.write_reply.ensures.text;
      wrote = wrote_more step c.in-Ok.is c.calls.invariant.wrote c.write_reply.ensures.wrote;
    }

pub returns : goal.returns
returns g c = wrote_all _ (no_reply c.args.objects.now c.calls.lines c.args.replies.now.items c.calls.i (omega arith) c.calls.invariant.answers) c.calls.invariant.wrote
