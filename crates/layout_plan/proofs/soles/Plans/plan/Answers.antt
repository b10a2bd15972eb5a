use Rattle.std.proofs.Common.{rules, ◌∙◌}
use Rattle.layout_plan.proofs.OneStep.{path_serves}
use Rattle.layout_plan.proofs.LaneCounts.{known_path}
use Rattle.layout_plan.proofs.soles.Plans.plan.Goals as goal

-- the path is the plan's
pub returns-clause-path : goal.returns-clause-path
returns-clause-path c = c.path_with.ensures ∙ known_path c.args.shape.now c.args.self.now c.args.object c.at.result _ c.args.call.now c.requires.plans (search rules) (search rules)

pub returns-clause-serves : goal.returns-clause-serves
returns-clause-serves c = path_serves c.args.shape.now c.args.object c.args.call.now c.path_with.result (returns-clause-path c)
