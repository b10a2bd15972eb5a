use Rattle.work_lang.proofs.TextFacts as facts
use Rattle.work_lang.proofs.vectors.four_words.Goals as goal

pub returns : goal.returns
returns c = facts.four_words
