use Rattle.std.proofs.Common.{rules, arith, ◌≡◌, ◌+◌}
use Rattle.std.specs.Prelude.{replicate}
use Rattle.any_size.proofs.Openings.{laid_none, laid_all, spots_none, spots_all, zeros_are}
use Rattle.any_size.proofs.starts.laid.Goals as goal

pub loop-i-init : goal.loop-i-init
loop-i-init c = let e : c.in_ok-words.words.items ≡ replicate (1 + c.args.locks) 0 = search rules in
    (laid_none _ _ _ (search rules) (zeros_are _ (1 + c.args.locks) e), spots_none _ _ _ (search rules))

pub returns : goal.returns
returns c = (laid_all _ _ _ _ c.loop-i-test.false c.loop-i.invariant.0, spots_all _ _ _ _ (omega arith) c.loop-i.invariant.1)
