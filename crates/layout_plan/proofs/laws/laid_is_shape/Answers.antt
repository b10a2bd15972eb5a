use Rattle.layout_plan.proofs.Laying.{laid_is_shape}
use Rattle.layout_plan.proofs.laws.laid_is_shape.Goals as goal

pub returns : goal.returns
returns c = laid_is_shape
