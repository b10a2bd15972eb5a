use Rattle.work_lang.proofs.TextFacts as facts
use Rattle.work_lang.proofs.vectors.positions.Goals as goal

pub returns : goal.returns
returns c = facts.positions
