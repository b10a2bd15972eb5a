use Rattle.place_core.proofs.StepLaws.{step_tells_reply}
use Rattle.place_core.proofs.shape_laws.step_tells_reply.Goals as goal

pub returns : goal.returns
returns c = step_tells_reply
