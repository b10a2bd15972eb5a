use Rattle.std.proofs.Common.{◌≡◌, List, map, refl, sym, subst, ap}
use Rattle.std.specs.List.{AllByRecursion}
use Rattle.place_core.specs.declared.script.Piece.{Piece}
use Rattle.place_core.specs.Pieces.{script_lines}
use Rattle.work_lang.specs.Workload.{threads_of, LineFits}
use Rattle.work_lang.proofs.CanonicalSteps.{threads_fit}
use Rattle.work_lang.proofs.Pieces.{writes_fail, writes_then, writes_same}
use Rattle.report_text.proofs.LineSteps.{lines_made}
use Rattle.report_text.proofs.reports.report.Goals as goal

-- equal scripts have equal lines
threads_are : {xs ys : List (List Piece)} → xs ≡ ys → map script_lines xs ≡ map script_lines ys
threads_are same = ap (map script_lines) same

pub write_threads-requires-clause-fits : goal.write_threads-requires-clause-fits
write_threads-requires-clause-fits g c =
    subst (λ ts. AllByRecursion (AllByRecursion (LineFits c.objects-objects.result.now)) ts) (sym (threads_are c.threads-threads.ensures.value))
    (subst (λ os. AllByRecursion (AllByRecursion (LineFits os)) (threads_of c.args.work.now)) (sym c.objects-objects.ensures.value) (threads_fit c.args.work.now c.objects-objects.ensures.kept))

pub returns-in-Err : goal.returns-in-Err
returns-in-Err g c =
    writes_same (sym (lines_made c.args.work.now _ _ _ _ _ _ c.target-target.ensures.value c.objects-objects.ensures.value (threads_are c.threads-threads.ensures.value)))
    (writes_fail _ refl c.in-Err.is c.write_target.ensures)

pub returns-in-Err-write_threads : goal.returns-in-Err-write_threads
returns-in-Err-write_threads g c =
    writes_same (sym (lines_made c.args.work.now _ _ _ _ _ _ c.target-target.ensures.value c.objects-objects.ensures.value (threads_are c.threads-threads.ensures.value)))
    (writes_then refl c.in-Ok.is c.write_target.ensures (writes_fail _ refl c.in-Err-write_threads.is c.write_threads.ensures))

pub returns-in-Err-write_line : goal.returns-in-Err-write_line
returns-in-Err-write_line g c =
    writes_same (sym (lines_made c.args.work.now _ _ _ _ _ _ c.target-target.ensures.value c.objects-objects.ensures.value (threads_are c.threads-threads.ensures.value)))
    (writes_then refl c.in-Ok.is c.write_target.ensures (writes_then refl c.in-Ok-write_threads.is c.write_threads.ensures (writes_fail _ refl c.in-Err-write_line.is c.write_line.ensures)))

pub returns : goal.returns
returns g c =
    writes_same (sym (lines_made c.args.work.now _ _ _ _ _ _ c.target-target.ensures.value c.objects-objects.ensures.value (threads_are c.threads-threads.ensures.value)))
    (writes_then refl c.in-Ok.is c.write_target.ensures (writes_then refl c.in-Ok-write_threads.is c.write_threads.ensures (writes_then refl c.in-Ok-write_line.is c.write_line.ensures c.write_last.ensures)))
