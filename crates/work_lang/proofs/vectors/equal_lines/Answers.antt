use Rattle.work_lang.proofs.TextFacts as facts
use Rattle.work_lang.proofs.vectors.equal_lines.Goals as goal

pub returns : goal.returns
returns c = facts.equal_lines
