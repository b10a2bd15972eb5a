use Rattle.layout_plan.proofs.LaidObjects.{addresses_rise}
use Rattle.layout_plan.proofs.laws.addresses_rise.Goals as goal

pub returns : goal.returns
returns c = addresses_rise
