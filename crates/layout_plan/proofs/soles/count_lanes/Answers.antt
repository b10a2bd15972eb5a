use Rattle.std.proofs.Common.{rules, arith}
use Rattle.place_core.specs.Validity.{IsObject}
use Rattle.layout_plan.proofs.LaneCounts.{others_are, count_more, count_whole}
use Rattle.layout_plan.proofs.soles.count_lanes.Goals as goal

-- one object of those that were left is counted
pub objects-preserved : goal.objects-preserved
objects-preserved c = record {
  objects = others_are (IsObject c.args.shape.now) c.objects.rest.now c.objects.invariant.objects;
  words = search rules;
  small = c.count_lane.ensures.small;
  counted = λ w lt. count_more c.objects.rest.now _ w _ _ _ (search rules) (c.count_lane.ensures.counted w (omega (arith, lt))) (c.objects.invariant.counted w lt);
}

-- no object is left
pub returns-clause-counted : goal.returns-clause-counted
returns-clause-counted c = λ w lt. count_whole c.objects.rest.now w _ _ (search rules) (c.objects.invariant.small w) (c.objects.invariant.counted w lt)
