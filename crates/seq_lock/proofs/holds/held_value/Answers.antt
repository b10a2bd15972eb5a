use Rattle.std.proofs.Common.{◌≡◌, ◌+◌, ◌*◌, ◌^◌, ◌<◌, ◌≤◌, ℕ, sym, ◌∙◌, ap, subst, arith}
use Rattle.seq_lock.proofs.HeldParts.{reading_none, reading_low, reading_more, reading_all}
use Rattle.seq_lock.proofs.holds.held_value.Goals as goal

pub loop-part-init : goal.loop-part-init
loop-part-init c = reading_none _ _ _ c.requires.hold

pub with_part-value-requires-clause-low : goal.with_part-value-requires-clause-low
with_part-value-requires-clause-low c = let bits = c.spread_of-spread.ensures.bits.0 in
    subst (λ (z : ℕ). c.loop-part.value < 2 ^ (z * c.loop-part.part)) (sym bits) (reading_low _ _ _ _ _ _ c.loop-part.invariant)

pub loop-part-preserved : goal.loop-part-preserved
loop-part-preserved c = let bits = c.spread_of-spread.ensures.bits.0 in
    reading_more _ _ _ _ _ _ c.loop-part.invariant _ _ _ c.step_held-number.ensures
    (c.with_part-value.ensures.value ∙ ap (λ (z : ℕ). c.loop-part.value + c.step_held-number.result * 2 ^ (z * c.loop-part.part)) bits)

pub returns : goal.returns
returns c = let e = c.spread_of-spread.ensures in
    let done : c.loop-part.part ≡ c.spread_of-spread.result.parts = omega arith in
    let some : 1 ≤ c.loop-part.part = omega (arith, e.parts.1) in
    reading_all _ _ _ _ _ _ e.shape c.requires.object (done ∙ e.parts.0) some c.loop-part.invariant
