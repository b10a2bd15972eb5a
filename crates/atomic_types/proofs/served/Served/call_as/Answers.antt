use Rattle.std.proofs.Common.{sym, ◌∙◌}
use Rattle.atomic_types.proofs.ServedCalls.{by_one}
use Rattle.atomic_types.proofs.served.Served.call_as.Goals as goal

pub returns-in-One : goal.returns-in-One
returns-in-One g c = by_one _ _ _ _ _ _ _ (sym c.plan.ensures.path ∙ c.in-One.is) (c.plan.ensures.serves _ c.in-One.is) c.step_op.ensures
