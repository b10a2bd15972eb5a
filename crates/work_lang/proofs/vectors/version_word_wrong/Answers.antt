use Rattle.work_lang.proofs.TextFacts as facts
use Rattle.work_lang.proofs.vectors.version_word_wrong.Goals as goal

pub returns : goal.returns
returns c = facts.version_word_wrong
