use Rattle.work_lang.proofs.TextFacts as facts
use Rattle.work_lang.proofs.vectors.thread_left_open.Goals as goal

pub returns : goal.returns
returns c = facts.thread_left_open
