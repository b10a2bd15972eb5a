use Rattle.work_lang.proofs.TextFacts as facts
use Rattle.work_lang.proofs.vectors.eight_bytes.Goals as goal

pub returns : goal.returns
returns c = facts.eight_bytes
