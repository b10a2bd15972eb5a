use Rattle.work_lang.proofs.TextFacts as facts
use Rattle.work_lang.proofs.vectors.a_least_value.Goals as goal

pub returns : goal.returns
returns c = facts.a_least_value
