use Rattle.std.proofs.Common.{ℕ, subst}
use Rattle.op_table.specs.declared.call.Call.TheVariants.{Load}
use Rattle.op_table.specs.declared.call.Reply.{Reply}
use Rattle.place_core.specs.declared.places.WordOp.TheVariants as op
use Rattle.seat_views.specs.Tries.{OpMade}
use Rattle.lane_word.proofs.LanePieces.{load_plan}
use Rattle.lane_word.proofs.LaneSteps.{op_at_once}
use Rattle.lane_word.proofs.lane.Lane.load.Goals as goal

pub returns : goal.returns
returns c = op_at_once _ _ _ _ _ _ _ c.requires.lane (load_plan _ _ c.requires.lane)
    (subst (λ (z : ℕ × Reply). OpMade c.args.arena.now.shape z.0 Load op.Load c.args.pass.now z.1 c.step_op.new.self) (λ k. (c.self.view_is k, c.in-Value.is k)) c.step_op.ensures)
