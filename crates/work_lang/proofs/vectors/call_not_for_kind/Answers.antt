use Rattle.work_lang.proofs.TextFacts as facts
use Rattle.work_lang.proofs.vectors.call_not_for_kind.Goals as goal

pub returns : goal.returns
returns c = facts.call_not_for_kind
