use Rattle.std.proofs.Common.{arith}
use Rattle.work_lang.specs.Canonical.{object_line}
use Rattle.work_lang.proofs.Lists.{all_at}
use Rattle.work_lang.proofs.Pieces.{wrote_more, wrote_stops, wrote_all}
use Rattle.work_lang.proofs.CanonicalSteps.{get_at, mapped_at, mapped_end}
use Rattle.work_lang.proofs.canonical.write_objects.Goals as goal

pub write_object-requires : goal.write_object-requires
write_object-requires g c = all_at _ c.args.objects.now c.objects.i c.index-objects-i.result c.requires (get_at c.args.objects.now c.objects.i c.index-objects-i.result (omega arith) c.index-objects-i.is)

pub returns-in-Err : goal.returns-in-Err
returns-in-Err g c =
    let there = get_at c.args.objects.now c.objects.i c.index-objects-i.result (omega arith) c.index-objects-i.is in
    wrote_stops _ (mapped_at object_line c.args.objects.now c.objects.i c.index-objects-i.result there) c.in-Err.is c.objects.invariant.wrote c.write_object.ensures

pub objects-preserved : goal.objects-preserved
objects-preserved g c =
    let there = get_at c.args.objects.now c.objects.i c.index-objects-i.result (omega arith) c.index-objects-i.is in
    record {
      within = omega arith;
      wrote = wrote_more (mapped_at object_line c.args.objects.now c.objects.i c.index-objects-i.result there) c.in-Ok.is c.objects.invariant.wrote c.write_object.ensures;
    }

pub returns : goal.returns
returns g c = wrote_all _ (mapped_end object_line c.args.objects.now c.objects.i (omega arith)) c.objects.invariant.wrote
