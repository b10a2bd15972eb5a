use Rattle.std.proofs.Common.{refl, sym, subst}
use Rattle.std.specs.List.{AllByRecursion}
use Rattle.work_lang.specs.Workload.{PieceStands}
use Rattle.work_lang.proofs.Pieces.{writes_fail, writes_then, writes_same}
use Rattle.work_lang.proofs.CanonicalSteps.{lines_made, scripts_stand_later}
use Rattle.work_lang.proofs.canonical.print_work.Goals as goal

pub write_threads-requires-clause-stand : goal.write_threads-requires-clause-stand
write_threads-requires-clause-stand g c =
    subst (AllByRecursion (AllByRecursion (PieceStands 2 c.objects-objects.result.now))) (sym c.threads-threads.ensures.value)
    (subst (λ os. AllByRecursion (AllByRecursion (PieceStands 2 os)) c.args.work.now.scripts) (sym c.objects-objects.ensures.value) (scripts_stand_later c.args.work.now.version c.args.work.now.objects c.args.work.now.scripts c.objects-objects.ensures.kept.pieces))

pub returns-in-Err : goal.returns-in-Err
returns-in-Err g c =
    writes_same (sym (lines_made c.args.work.now _ _ _ _ c.version.ensures.value c.target-target.ensures.value c.objects-objects.ensures.value c.threads-threads.ensures.value))
    (writes_fail _ refl c.in-Err.is c.write_version.ensures)

pub returns-in-Err-write_target : goal.returns-in-Err-write_target
returns-in-Err-write_target g c =
    writes_same (sym (lines_made c.args.work.now _ _ _ _ c.version.ensures.value c.target-target.ensures.value c.objects-objects.ensures.value c.threads-threads.ensures.value))
    (writes_then refl c.in-Ok.is c.write_version.ensures (writes_fail _ refl c.in-Err-write_target.is c.write_target.ensures))

pub returns-in-Err-write_objects : goal.returns-in-Err-write_objects
returns-in-Err-write_objects g c =
    writes_same (sym (lines_made c.args.work.now _ _ _ _ c.version.ensures.value c.target-target.ensures.value c.objects-objects.ensures.value c.threads-threads.ensures.value))
    (writes_then refl c.in-Ok.is c.write_version.ensures (writes_then refl c.in-Ok-write_target.is c.write_target.ensures (writes_fail _ refl c.in-Err-write_objects.is c.write_objects.ensures)))

pub returns : goal.returns
returns g c =
    writes_same (sym (lines_made c.args.work.now _ _ _ _ c.version.ensures.value c.target-target.ensures.value c.objects-objects.ensures.value c.threads-threads.ensures.value))
    (writes_then refl c.in-Ok.is c.write_version.ensures (writes_then refl c.in-Ok-write_target.is c.write_target.ensures (writes_then refl c.in-Ok-write_objects.is c.write_objects.ensures c.write_threads.ensures)))
