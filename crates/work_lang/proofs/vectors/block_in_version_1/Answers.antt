use Rattle.work_lang.proofs.TextFacts as facts
use Rattle.work_lang.proofs.vectors.block_in_version_1.Goals as goal

pub returns : goal.returns
returns c = facts.block_in_version_1
