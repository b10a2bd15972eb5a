use Rattle.layout_plan.proofs.LaidObjects.{address_is_aligned}
use Rattle.layout_plan.proofs.laws.address_is_aligned.Goals as goal

pub returns : goal.returns
returns c = address_is_aligned
