use Rattle.work_lang.proofs.TextFacts as facts
use Rattle.work_lang.proofs.vectors.thread_with_more.Goals as goal

pub returns : goal.returns
returns c = facts.thread_with_more
