use Rattle.std.proofs.Common.{ℕ, ap, sym, ◌∙◌, subst}
use Rattle.place_core.specs.Operations.{plan_of}
use Rattle.seat_views.specs.Tries.{OpMade}
use Rattle.lane_word.proofs.LaneSteps.{op_at_once}
use Rattle.lane_word.proofs.lane.Lane.one.Goals as goal

pub returns : goal.returns
returns c = op_at_once _ _ _ _ _ _ _ c.requires.lane (ap (λ (o : ℕ). plan_of c.args.arena.now.shape o c.args.call.now) (sym c.self.view_is) ∙ (sym c.plan.ensures.path ∙ c.in-One.is))
    (subst (λ (o : ℕ). OpMade c.args.arena.now.shape o c.args.call.now c.in-One.op c.args.pass.now c.step_op.result c.step_op.new.self) c.self.view_is c.step_op.ensures)
