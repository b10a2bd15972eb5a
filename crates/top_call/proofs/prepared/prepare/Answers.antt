use Rattle.top_call.proofs.Answering.{laid_for}
use Rattle.top_call.proofs.prepared.prepare.Goals as goal

pub fixed_for-requires-clause-laid : goal.fixed_for-requires-clause-laid
fixed_for-requires-clause-laid c =
    laid_for c.args.work c.in_ok-shape.shape _ _
    c.in_ok-shape.ensures.layout c.target.ensures.value c.objects.ensures.value
