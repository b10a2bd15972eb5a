use Rattle.work_lang.proofs.TextFacts as facts
use Rattle.work_lang.proofs.vectors.kinds_of_values.Goals as goal

pub returns : goal.returns
returns c = facts.kinds_of_values
