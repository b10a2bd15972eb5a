use Rattle.work_lang.proofs.TextFacts as facts
use Rattle.work_lang.proofs.vectors.not_ascii_in_comment.Goals as goal

pub returns : goal.returns
returns c = facts.not_ascii_in_comment
