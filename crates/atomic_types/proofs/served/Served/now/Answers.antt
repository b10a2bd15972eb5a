use Rattle.std.proofs.Common.{sym, ◌∙◌}
use Rattle.atomic_types.proofs.ServedCalls.{at_once}
use Rattle.atomic_types.proofs.served.Served.now.Goals as goal

pub returns-in-One : goal.returns-in-One
returns-in-One c = ((_, sym c.plan.ensures.path ∙ c.in-One.is), at_once _ _ _ _ _ _ _ (sym c.plan.ensures.path ∙ c.in-One.is) (c.plan.ensures.serves _ c.in-One.is) c.step_op.ensures)
