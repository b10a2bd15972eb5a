use Rattle.work_lang.proofs.TextFacts as facts
use Rattle.work_lang.proofs.vectors.call_without_word.Goals as goal

pub returns : goal.returns
returns c = facts.call_without_word
