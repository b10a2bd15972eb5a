use Rattle.place_core.proofs.StepLaws.{step_replaces_lane}
use Rattle.place_core.proofs.shape_laws.step_replaces_lane.Goals as goal

pub returns : goal.returns
returns c = step_replaces_lane
