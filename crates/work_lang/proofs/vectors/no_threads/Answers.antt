use Rattle.work_lang.proofs.TextFacts as facts
use Rattle.work_lang.proofs.vectors.no_threads.Goals as goal

pub returns : goal.returns
returns c = facts.no_threads
