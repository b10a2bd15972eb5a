use Rattle.layout_plan.proofs.OneStep.{one_serves}
use Rattle.layout_plan.proofs.laws.one_serves.Goals as goal

pub returns : goal.returns
returns c = one_serves
