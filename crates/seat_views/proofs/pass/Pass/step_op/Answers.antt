use Rattle.seat_views.proofs.Landing.{op_made}
use Rattle.seat_views.proofs.pass.Pass.step_op.Goals as goal

pub returns : goal.returns
returns c = let spot = c.lane_spot-spot.ensures in let step = c.op_as-found.ensures in
    op_made c.args.arena.now.shape _ _ _ _ _ spot.place spot.kind _ _ _ _ _ c.self.view_is step.same.0 _ _ _ _ _ c.lane_bits.ensures.value c.answer.ensures.value step.made
