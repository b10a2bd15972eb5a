use Rattle.work_lang.proofs.TextFacts as facts
use Rattle.work_lang.proofs.vectors.new_value_in_version_1.Goals as goal

pub returns : goal.returns
returns c = facts.new_value_in_version_1
