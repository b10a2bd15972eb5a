use Rattle.work_lang.proofs.TextFacts as facts
use Rattle.work_lang.proofs.vectors.bools_and_pointers.Goals as goal

pub returns : goal.returns
returns c = facts.bools_and_pointers
