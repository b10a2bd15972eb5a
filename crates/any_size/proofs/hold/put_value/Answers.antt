use Rattle.std.proofs.Common.{rules, ◌≡◌}
use Rattle.any_size.specs.Layout.{count_of}
use Rattle.any_size.proofs.CallParts.{putting_more, putting_all}
use Rattle.any_size.proofs.hold.put_value.Goals as goal

pub loop-i-preserved : goal.loop-i-preserved
loop-i-preserved c = putting_more c.args.blocks.now c.args.object c.args.pass.now c.loop-i.pass c.put.new.pass c.words-words.result c.loop-i.i (search rules) c.loop-i.invariant c.put.ensures

pub returns : goal.returns
returns c = let spot = c.requires.spot in let done : c.loop-i.i ≡ count_of c.args.blocks.now.starts c.args.object = search rules in
    putting_all _ _ _ _ c.words-words.result _ _ done (search rules) c.requires.size spot.some spot.few c.words-words.ensures c.loop-i.invariant
