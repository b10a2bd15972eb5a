use Rattle.work_lang.proofs.TextFacts as facts
use Rattle.work_lang.proofs.vectors.repeat_between_threads.Goals as goal

pub returns : goal.returns
returns c = facts.repeat_between_threads
