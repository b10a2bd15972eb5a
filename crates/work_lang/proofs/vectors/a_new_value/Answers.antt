use Rattle.work_lang.proofs.TextFacts as facts
use Rattle.work_lang.proofs.vectors.a_new_value.Goals as goal

pub returns : goal.returns
returns c = facts.a_new_value
