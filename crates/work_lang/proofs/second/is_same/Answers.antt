use Rattle.work_lang.proofs.SameLines.{equal_is_same}
use Rattle.work_lang.proofs.second.is_same.Goals as goal

pub returns : goal.returns
returns c = equal_is_same c.args.a.now c.args.b.now c.eq.result c.eq.ensures
