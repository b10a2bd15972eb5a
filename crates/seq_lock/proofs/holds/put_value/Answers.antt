use Rattle.std.proofs.Common.{◌≡◌, ◌≤◌, ℕ, ◌∙◌, ap, arith}
use Rattle.place_core.specs.PartValues.{part_of}
use Rattle.seq_lock.proofs.StoredParts.{putting_none, putting_more, putting_all}
use Rattle.seq_lock.proofs.holds.put_value.Goals as goal

pub loop-part-init : goal.loop-part-init
loop-part-init c = putting_none _ _ _ _ c.requires.hold

pub loop-part-preserved : goal.loop-part-preserved
loop-part-preserved c = let bits = c.spread_of-spread.ensures.bits.0 in
    putting_more _ _ _ _ _ _ c.loop-part.invariant _ _ (c.part_at.ensures.value ∙ ap (λ (z : ℕ). part_of z c.loop-part.part c.args.new) bits) c.step_put.ensures

pub returns : goal.returns
returns c = let e = c.spread_of-spread.ensures in
    let done : c.loop-part.part ≡ c.spread_of-spread.result.parts = omega arith in
    let some : 1 ≤ c.loop-part.part = omega (arith, e.parts.1) in
    putting_all _ _ _ _ _ _ e.shape c.requires.object (done ∙ e.parts.0) some c.requires.new c.loop-part.invariant
