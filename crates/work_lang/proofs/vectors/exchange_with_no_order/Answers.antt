use Rattle.work_lang.proofs.TextFacts as facts
use Rattle.work_lang.proofs.vectors.exchange_with_no_order.Goals as goal

pub returns : goal.returns
returns c = facts.exchange_with_no_order
