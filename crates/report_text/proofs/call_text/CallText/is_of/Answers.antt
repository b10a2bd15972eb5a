use Rattle.std.proofs.Common.{◌∙◌, ap}
use Rattle.std.specs.Prelude.{Some}
use Rattle.work_lang.proofs.SameLines.{equal_is_same}
use Rattle.report_text.proofs.call_text.CallText.is_of.Goals as goal

pub returns-in-Some : goal.returns-in-Some
returns-in-Some c = λ yes. c.in-Some.is ∙ ap Some ((equal_is_same c.in-Some.kept c.args.line.now c.eq.result c.eq.ensures).0 yes)
