use Rattle.std.proofs.Common.{rules, ◌≡◌, ◌∙◌, ◌<◌, length, ap, sym, subst, List, ℕ, arith, length-set}
use Rattle.any_size.specs.Padding.{part_more, spelled_padded}
use Rattle.any_size.proofs.block.Block64.spelled.Goals as goal

pub loop-i-preserved : goal.loop-i-preserved
loop-i-preserved c = let before = c.loop-i.invariant in let eight = before.0 in let here : c.loop-i.i < length c.loop-i.parts = omega arith in
    (length-set c.loop-i.parts c.loop-i.i c.to_le_bytes.result ∙ before.0, part_more c.args.words.now c.loop-i.parts c.loop-i.i c.to_le_bytes.result (search rules) here c.to_le_bytes.ensures before.1)

pub invariant_of-result : goal.invariant_of-result
invariant_of-result c = let before = c.loop-i.invariant in (spelled_padded c.args.words.now c.loop-i.parts c.copy_from_slice.new.self c.as_flattened.result.now c.args.value_len c.loop-i.i c.requires.len.0 c.requires.len.1 (omega arith) (search rules) before.0 (search rules) c.copy_from_slice.ensures.after c.as_flattened.ensures.value before.1 c.requires.zeros).1
