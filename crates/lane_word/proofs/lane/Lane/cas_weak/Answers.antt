use Rattle.std.proofs.Common.{ℕ, ap, sym, ◌∙◌, subst}
use Rattle.op_table.specs.declared.call.Call.TheVariants.{CasWeak}
use Rattle.place_core.specs.Operations.{plan_of}
use Rattle.seat_views.specs.Tries.{OpMade}
use Rattle.lane_word.proofs.LaneSteps.{weak_by_op}
use Rattle.lane_word.proofs.lane.Lane.cas_weak.Goals as goal

pub returns-in-One : goal.returns-in-One
returns-in-One c = weak_by_op _ _ _ _ _ _ _ _ c.requires.lane
    (ap (λ (o : ℕ). plan_of c.args.arena.now.shape o (CasWeak c.args.expected c.args.new)) (sym c.self.view_is) ∙ (sym c.plan.ensures.path ∙ c.in-One.is))
    (subst (λ (o : ℕ). OpMade c.args.arena.now.shape o (CasWeak c.args.expected c.args.new) c.in-One.op c.args.pass.now c.step_op.result c.step_op.new.self) c.self.view_is c.step_op.ensures)
