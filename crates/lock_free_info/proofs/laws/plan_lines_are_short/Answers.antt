use Rattle.lock_free_info.proofs.ShortLines.{plan_lines_are_short}
use Rattle.lock_free_info.proofs.laws.plan_lines_are_short.Goals as goal

pub returns : goal.returns
returns c = plan_lines_are_short
