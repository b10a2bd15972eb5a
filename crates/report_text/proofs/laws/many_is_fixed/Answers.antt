use Rattle.report_text.proofs.ManyValues.{many_is_fixed}
use Rattle.report_text.proofs.laws.many_is_fixed.Goals as goal

pub returns : goal.returns
returns c = many_is_fixed
