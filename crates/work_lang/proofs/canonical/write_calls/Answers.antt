use Rattle.work_lang.proofs.Firsts.{AllByRecursion-first, AllByRecursion-others}
use Rattle.work_lang.proofs.Pieces.{wrote_more, wrote_stops}
use Rattle.work_lang.proofs.CanonicalSteps.{line_said, line_first}
use Rattle.work_lang.proofs.canonical.write_calls.Goals as goal

pub write_call-requires : goal.write_call-requires
write_call-requires g c = line_said c.args.objects.now _ c.requires.sound (AllByRecursion-first _ c.calls.lines.now _ c.in-len1-up.len_at_least c.calls.invariant.fits)

pub returns-in-Err : goal.returns-in-Err
returns-in-Err g c = wrote_stops _ (line_first c.args.objects.now c.calls.lines.now _ c.in-len1-up.len_at_least) c.in-Err.is c.calls.invariant.wrote c.write_call.ensures

pub calls-preserved : goal.calls-preserved
calls-preserved g c = record {
  fits = AllByRecursion-others _ c.calls.lines.now c.calls.invariant.fits;
  wrote = wrote_more (line_first c.args.objects.now c.calls.lines.now _ c.in-len1-up.len_at_least) c.in-Ok.is c.calls.invariant.wrote c.write_call.ensures;
}
