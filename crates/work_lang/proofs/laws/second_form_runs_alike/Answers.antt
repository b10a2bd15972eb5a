use Rattle.work_lang.proofs.SecondForms.{second_runs_alike}
use Rattle.work_lang.proofs.laws.second_form_runs_alike.Goals as goal

pub returns : goal.returns
returns c = second_runs_alike
