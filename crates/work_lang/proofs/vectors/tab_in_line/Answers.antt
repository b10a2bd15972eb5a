use Rattle.work_lang.proofs.TextFacts as facts
use Rattle.work_lang.proofs.vectors.tab_in_line.Goals as goal

pub returns : goal.returns
returns c = facts.tab_in_line
