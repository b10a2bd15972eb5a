use Rattle.std.proofs.Common.{refl, arith}
use Rattle.any_size.specs.Padding.{padded_copy}
use Rattle.any_size.proofs.block.Block64.of.Goals as goal

pub invariant_of-result : goal.invariant_of-result
invariant_of-result c = padded_copy c.args.bytes.now _ _ c.copy_from_slice.ensures.after refl (omega arith) (omega arith)
