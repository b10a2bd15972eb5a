use Rattle.work_lang.proofs.TextFacts as facts
use Rattle.work_lang.proofs.vectors.weak_exchange.Goals as goal

pub returns : goal.returns
returns c = facts.weak_exchange
