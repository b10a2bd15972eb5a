use Rattle.std.proofs.Common.{rules, ◌≡◌, ◌∙◌, ◌≤◌, arith, ap, refl}
use Rattle.any_size.specs.Layout.{count_of}
use Rattle.any_size.proofs.CallParts.{reading_more, reading_spells}
use Rattle.any_size.proofs.hold.held_value.Goals as goal

pub loop-i-preserved : goal.loop-i-preserved
loop-i-preserved c = reading_more _ _ _ _ _ _ _ _ (search rules) c.loop-i.invariant c.held.ensures.read c.held.ensures.value

pub spelled-requires-clause-zeros : goal.spelled-requires-clause-zeros
spelled-requires-clause-zeros c = let spot = c.requires.spot in let done : c.loop-i.i ≡ count_of c.args.blocks.now.starts c.args.object = search rules in
    (reading_spells _ _ _ _ _ _ _ c.loop-i.invariant done spot.size spot.some spot.few).0

pub returns : goal.returns
returns c = let spot = c.requires.spot in let done : c.loop-i.i ≡ count_of c.args.blocks.now.starts c.args.object = search rules in
    (reading_spells _ _ _ _ _ _ _ c.loop-i.invariant done spot.size spot.some spot.few).1 _ c.spelled.ensures
