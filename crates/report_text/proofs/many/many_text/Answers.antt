use Rattle.std.proofs.Common.{refl, sym, ap, subst}
use Rattle.work_lang.proofs.Pieces.{writes_fail, writes_then, writes_same}
use Rattle.report_text.specs.Many.{AreValues, many_with}
use Rattle.report_text.proofs.many.many_text.Goals as goal

pub write_values-requires-clause-values : goal.write_values-requires-clause-values
write_values-requires-clause-values g c = subst (λ (os : _). AreValues os c.args.last.now.items) (sym c.objects-objects.ensures.value) c.requires.last

pub returns-in-Err : goal.returns-in-Err
returns-in-Err g c =
    writes_same (ap (λ os. many_with c.args.seed c.args.threads c.args.calls os c.args.last.now.items) (sym c.objects-objects.ensures.value))
    (writes_fail _ refl c.in-Err.is c.write_head.ensures)

pub returns : goal.returns
returns g c =
    writes_same (ap (λ os. many_with c.args.seed c.args.threads c.args.calls os c.args.last.now.items) (sym c.objects-objects.ensures.value))
    (writes_then refl c.in-Ok.is c.write_head.ensures c.write_values.ensures)
