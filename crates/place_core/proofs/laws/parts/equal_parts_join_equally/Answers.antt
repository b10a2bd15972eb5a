use Rattle.place_core.proofs.PartSums.{equal_parts_join_equally}
use Rattle.place_core.proofs.laws.parts.equal_parts_join_equally.Goals as goal

pub returns : goal.returns
returns c = equal_parts_join_equally
