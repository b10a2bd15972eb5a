use Rattle.std.proofs.Common.{◌∙◌}
use Rattle.target_desc.proofs.Rows.{tests_same}
use Rattle.target_desc.proofs.target.same_target.Goals as goal

pub returns : goal.returns
returns c = c.eq.ensures ∙ tests_same c.args.a.now c.args.b.now
