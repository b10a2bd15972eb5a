use Rattle.work_lang.proofs.TextFacts as facts
use Rattle.work_lang.proofs.vectors.comments_and_spaces.Goals as goal

pub returns : goal.returns
returns c = facts.comments_and_spaces
