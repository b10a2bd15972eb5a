use Rattle.std.proofs.Common.{rules}
use Rattle.layout_plan.proofs.OneStep.{path_serves}
use Rattle.layout_plan.proofs.plans.plan.Goals as goal

-- the path is the plan's
pub returns-clause-serves : goal.returns-clause-serves
returns-clause-serves c = path_serves c.args.shape.now c.args.object c.args.call.now c.path_with.result (search rules)
