use Rattle.report_text.proofs.ManyValues.{each_is_fixed}
use Rattle.report_text.proofs.laws.each_is_fixed.Goals as goal

pub returns : goal.returns
returns c = each_is_fixed
