use Rattle.work_lang.proofs.TextFacts as facts
use Rattle.work_lang.proofs.vectors.empty_line.Goals as goal

pub returns : goal.returns
returns c = facts.empty_line
