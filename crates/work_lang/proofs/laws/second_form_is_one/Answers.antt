use Rattle.work_lang.proofs.SecondForms.{second_is_one}
use Rattle.work_lang.proofs.laws.second_form_is_one.Goals as goal

pub returns : goal.returns
returns c = second_is_one
