use Rattle.layout_plan.proofs.LaidObjects.{laid_is_declared}
use Rattle.layout_plan.proofs.laws.laid_is_declared.Goals as goal

pub returns : goal.returns
returns c = laid_is_declared
