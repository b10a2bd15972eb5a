use Rattle.work_lang.proofs.TextFacts as facts
use Rattle.work_lang.proofs.vectors.one_thread.Goals as goal

pub returns : goal.returns
returns c = facts.one_thread
