use Rattle.work_lang.proofs.TextFacts as facts
use Rattle.work_lang.proofs.vectors.no_objects.Goals as goal

pub returns : goal.returns
returns c = facts.no_objects
