use Rattle.work_lang.proofs.TextFacts as facts
use Rattle.work_lang.proofs.vectors.a_usual_workload.Goals as goal

pub returns : goal.returns
returns c = facts.a_usual_workload
