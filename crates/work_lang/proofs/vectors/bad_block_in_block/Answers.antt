use Rattle.work_lang.proofs.TextFacts as facts
use Rattle.work_lang.proofs.vectors.bad_block_in_block.Goals as goal

pub returns : goal.returns
returns c = facts.bad_block_in_block
