use Rattle.place_core.proofs.StepLaws.{step_makes_call}
use Rattle.place_core.proofs.shape_laws.step_makes_call.Goals as goal

pub returns : goal.returns
returns c = step_makes_call
