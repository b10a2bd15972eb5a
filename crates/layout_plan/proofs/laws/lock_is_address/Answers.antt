use Rattle.layout_plan.proofs.LaidObjects.{lock_is_address}
use Rattle.layout_plan.proofs.laws.lock_is_address.Goals as goal

pub returns : goal.returns
returns c = lock_is_address
