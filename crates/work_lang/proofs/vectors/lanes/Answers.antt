use Rattle.work_lang.proofs.TextFacts as facts
use Rattle.work_lang.proofs.vectors.lanes.Goals as goal

pub returns : goal.returns
returns c = facts.lanes
