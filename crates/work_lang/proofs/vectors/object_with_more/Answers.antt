use Rattle.work_lang.proofs.TextFacts as facts
use Rattle.work_lang.proofs.vectors.object_with_more.Goals as goal

pub returns : goal.returns
returns c = facts.object_with_more
