use Rattle.work_lang.proofs.TextFacts as facts
use Rattle.work_lang.proofs.vectors.object_negative.Goals as goal

pub returns : goal.returns
returns c = facts.object_negative
