use Rattle.work_lang.proofs.TextFacts as facts
use Rattle.work_lang.proofs.vectors.call_with_bad_order.Goals as goal

pub returns : goal.returns
returns c = facts.call_with_bad_order
