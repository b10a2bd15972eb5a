use Rattle.std.proofs.Common.{◌+◌, ◌≤◌, refl, sym, subst, arith}
use Rattle.place_core.specs.Shapes.{IsShape}
use Rattle.op_table.specs.Kind.{bytes_of}
use Rattle.layout_plan.specs.Layout.{next_address}
use Rattle.layout_plan.proofs.Laying.{laid_is_shape}
use Rattle.layout_plan.proofs.Seating.{few_bytes}
use Rattle.work_lang.proofs.Pieces.{wrote_more, wrote_stops}
use Rattle.work_lang.proofs.Firsts.{AllByRecursion-others, length-others}
use Rattle.lock_free_info.specs.PlanTable.{object_lines}
use Rattle.lock_free_info.proofs.TableSteps.{laid_first, laid_others, lines_step}
use Rattle.lock_free_info.proofs.table.write_objects.Goals as goal

pub write_object-requires-clause-shape : goal.write_object-requires-clause-shape
write_object-requires-clause-shape g c =
    subst (λ s. IsShape s) (sym c.requires.shape) (laid_is_shape c.args.target.now c.args.objects.now c.requires.target c.requires.objects c.requires.most)

-- the shape's object of this number is the first that is left, at its address
pub write_object-requires-clause-laid : goal.write_object-requires-clause-laid
write_object-requires-clause-laid g c =
    laid_first c.args.target.now c.objects.after c.objects.rest.now c.first-item.result c.next_address-address.result (omega arith) c.first-item.is c.next_address-address.ensures
    c.args.shape.now.objects c.objects.number c.objects.invariant.laid

pub returns-in-Err : goal.returns-in-Err
returns-in-Err g c =
    let step = lines_step c.args.target.now c.objects.after c.objects.rest.now c.first-item.result c.next_address-address.result (omega arith) c.first-item.is c.next_address-address.ensures
    (bytes_of c.first-item.result.kind) refl c.args.shape.now c.objects.number in
    wrote_stops {piece = object_lines c.args.target.now c.args.shape.now c.objects.number c.first-item.result c.next_address-address.result} _ step c.in-Err.is c.objects.invariant.wrote c.write_object.ensures

pub overflow_add-after : goal.overflow_add-after
overflow_add-after g c =
    let few : next_address c.args.target.now c.objects.after c.first-item.result.kind + bytes_of c.first-item.result.kind ≤ c.objects.after + 32 = few_bytes c.args.target.now c.requires.target c.objects.after c.first-item.result.kind in
    omega (arith, few, c.next_address-address.ensures, c.bytes.ensures, c.objects.invariant.room)

pub objects-preserved : goal.objects-preserved
objects-preserved g c =
    let few : next_address c.args.target.now c.objects.after c.first-item.result.kind + bytes_of c.first-item.result.kind ≤ c.objects.after + 32 = few_bytes c.args.target.now c.requires.target c.objects.after c.first-item.result.kind in
    record {
      declared = AllByRecursion-others _ c.objects.rest.now c.objects.invariant.declared;
      laid = laid_others c.args.target.now c.objects.after c.objects.rest.now c.first-item.result c.next_address-address.result (omega arith) c.first-item.is c.next_address-address.ensures
          c.bytes.result c.bytes.ensures c.args.shape.now.objects c.objects.number c.objects.invariant.laid;
      count = omega (arith, length-others c.objects.rest.now);
      room = omega (arith, few, c.next_address-address.ensures, c.bytes.ensures, length-others c.objects.rest.now);
      wrote = wrote_more (lines_step c.args.target.now c.objects.after c.objects.rest.now c.first-item.result c.next_address-address.result (omega arith) c.first-item.is c.next_address-address.ensures
          c.bytes.result c.bytes.ensures c.args.shape.now c.objects.number) c.in-Ok.is c.objects.invariant.wrote c.write_object.ensures;
    }
