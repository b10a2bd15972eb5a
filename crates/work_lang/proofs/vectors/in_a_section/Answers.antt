use Rattle.work_lang.proofs.TextFacts as facts
use Rattle.work_lang.proofs.vectors.in_a_section.Goals as goal

pub returns : goal.returns
returns c = facts.in_a_section
