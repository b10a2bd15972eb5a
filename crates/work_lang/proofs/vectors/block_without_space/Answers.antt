use Rattle.work_lang.proofs.TextFacts as facts
use Rattle.work_lang.proofs.vectors.block_without_space.Goals as goal

pub returns : goal.returns
returns c = facts.block_without_space
