use Rattle.place_core.proofs.ShapeFacts.{lane-at}
use Rattle.place_core.proofs.serving.op_serves.Goals as goal

-- a valid shape gives a lane its kind's width
pub op_for-requires-clause-width : goal.op_for-requires-clause-width
op_for-requires-clause-width c = (lane-at c.args.shape.now c.requires.shape c.args.object c.at-object.result _ _ _ c.at-object.ensures c.in-Lane.is).wide

pub op_for-requires-clause-ends : goal.op_for-requires-clause-ends
op_for-requires-clause-ends c = (lane-at c.args.shape.now c.requires.shape c.args.object c.at-object.result _ _ _ c.at-object.ensures c.in-Lane.is).ends
