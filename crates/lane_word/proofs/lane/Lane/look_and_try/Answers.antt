use Rattle.std.proofs.Common.{ℕ, subst}
use Rattle.op_table.specs.declared.call.Call.TheVariants.{CasWeak}
use Rattle.seat_views.specs.Tries.{LookMade, LookSaw, TryMade}
use Rattle.lane_word.proofs.LaneSteps.{weak_by_look, weak_by_try}
use Rattle.lane_word.proofs.lane.Lane.look_and_try.Goals as goal

pub returns-in-Ok : goal.returns-in-Ok
returns-in-Ok c = weak_by_look _ _ _ _ _ _ _ c.requires.lane c.requires.loops
    (subst (λ (o : ℕ). LookMade c.args.arena.now.shape o (CasWeak c.args.expected c.args.new) c.args.pass.now c.in-Ok.reply c.step_look.new.self) c.self.view_is c.in-Ok.ensures.made)

pub returns-in-Ok-step_try : goal.returns-in-Ok-step_try
returns-in-Ok-step_try c = weak_by_try _ c.shape-shape.ensures.valid _ _ _ _ _ _ _ _ c.requires.lane c.requires.arena.1 c.requires.loops
    (subst (λ (o : ℕ). LookSaw c.args.arena.now.shape o (CasWeak c.args.expected c.args.new) c.args.pass.now c.in-Err.found c.step_look.new.self) c.self.view_is c.in-Err.ensures.saw)
    (subst (λ (o : ℕ). TryMade c.args.arena.now.shape o (CasWeak c.args.expected c.args.new) c.in-Err.found c.step_look.new.self c.in-Ok-step_try.reply c.step_try.new.self) c.self.view_is c.in-Ok-step_try.ensures.made)
