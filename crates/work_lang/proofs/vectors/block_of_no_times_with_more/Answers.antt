use Rattle.work_lang.proofs.TextFacts as facts
use Rattle.work_lang.proofs.vectors.block_of_no_times_with_more.Goals as goal

pub returns : goal.returns
returns c = facts.block_of_no_times_with_more
