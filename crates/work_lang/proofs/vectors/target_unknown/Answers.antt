use Rattle.work_lang.proofs.TextFacts as facts
use Rattle.work_lang.proofs.vectors.target_unknown.Goals as goal

pub returns : goal.returns
returns c = facts.target_unknown
