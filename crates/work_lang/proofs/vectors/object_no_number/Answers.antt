use Rattle.work_lang.proofs.TextFacts as facts
use Rattle.work_lang.proofs.vectors.object_no_number.Goals as goal

pub returns : goal.returns
returns c = facts.object_no_number
