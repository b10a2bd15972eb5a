use Rattle.work_lang.proofs.TextFacts as facts
use Rattle.work_lang.proofs.vectors.object_too_great.Goals as goal

pub returns : goal.returns
returns c = facts.object_too_great
