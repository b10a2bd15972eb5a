use Rattle.work_lang.proofs.SecondForms.{second_is_work}
use Rattle.work_lang.proofs.laws.second_form_is_work.Goals as goal

pub returns : goal.returns
returns c = second_is_work
