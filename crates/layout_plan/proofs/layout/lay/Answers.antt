use Rattle.std.proofs.Common.{arith}
use Rattle.layout_plan.proofs.Laying.{walk_is_shape}
use Rattle.layout_plan.proofs.layout.lay.Goals as goal

pub returns-clause-valid : goal.returns-clause-valid
returns-clause-valid c = walk_is_shape c.args.target.now c.args.objects.now c.objects.rest.now c.objects.after _ c.objects.laid.items _ (omega arith) c.objects.invariant.laid c.objects.invariant.last c.words_for.ensures c.of.ensures c.requires.target c.requires.objects c.requires.most
