use Rattle.std.proofs.Common.{arith, refl}
use Rattle.place_core.specs.Pieces.{script_lines}
use Rattle.work_lang.proofs.Pieces.{wrote_more, wrote_stops}
use Rattle.work_lang.proofs.Firsts.{AllByRecursion-mapped, length-others}
use Rattle.report_text.proofs.LineSteps.{threads_step, answer_parts}
use Rattle.report_text.proofs.reports.write_threads.Goals as goal

pub write_calls-requires-clause-fits : goal.write_calls-requires-clause-fits
write_calls-requires-clause-fits g c = (AllByRecursion-mapped _ script_lines c.threads.threads.now c.script-item.result (omega arith) c.script-item.is c.threads.invariant.fits).0

pub write_calls-requires-clause-answers : goal.write_calls-requires-clause-answers
write_calls-requires-clause-answers g c =
    (answer_parts c.args.objects.now c.threads.threads.now c.threads.replies.now c.script-item.result c.own-item.result (omega arith) (omega arith) c.script-item.is c.own-item.is c.threads.invariant.answers).0

pub returns-in-Err : goal.returns-in-Err
returns-in-Err g c =
    let step = threads_step c.args.objects.now c.threads.number c.threads.threads.now c.threads.replies.now c.script-item.result c.own-item.result (omega arith) (omega arith) c.script-item.is c.own-item.is in
    wrote_stops _ step c.in-Err.is c.threads.invariant.wrote c.write_head.ensures

pub returns-in-Err-write_calls : goal.returns-in-Err-write_calls
returns-in-Err-write_calls g c =
    let step = threads_step c.args.objects.now c.threads.number c.threads.threads.now c.threads.replies.now c.script-item.result c.own-item.result (omega arith) (omega arith) c.script-item.is c.own-item.is in
    let headed = wrote_more step c.in-Ok.is c.threads.invariant.wrote c.write_head.ensures in
    wrote_stops _ refl c.in-Err-write_calls.is headed c.write_calls.ensures

pub threads-preserved : goal.threads-preserved
threads-preserved g c =
    let step = threads_step c.args.objects.now c.threads.number c.threads.threads.now c.threads.replies.now c.script-item.result c.own-item.result (omega arith) (omega arith) c.script-item.is c.own-item.is in
    let headed = wrote_more step c.in-Ok.is c.threads.invariant.wrote c.write_head.ensures in
    record {
      count = omega (arith, length-others c.threads.threads.now);
      fits = (AllByRecursion-mapped _ script_lines c.threads.threads.now c.script-item.result (omega arith) c.script-item.is c.threads.invariant.fits).1;
      answers = (answer_parts c.args.objects.now c.threads.threads.now c.threads.replies.now c.script-item.result c.own-item.result (omega arith) (omega arith) c.script-item.is c.own-item.is c.threads.invariant.answers).1;
      wrote = wrote_more refl c.in-Ok-write_calls.is headed c.write_calls.ensures;
    }
