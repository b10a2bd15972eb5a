use Rattle.work_lang.proofs.TextFacts as facts
use Rattle.work_lang.proofs.vectors.target_big_in_version_1.Goals as goal

pub returns : goal.returns
returns c = facts.target_big_in_version_1
