use Rattle.work_lang.proofs.TextFacts as facts
use Rattle.work_lang.proofs.vectors.end_with_more.Goals as goal

pub returns : goal.returns
returns c = facts.end_with_more
