use Rattle.std.proofs.Common.{ap, sym, subst, ◌∙◌}
use Rattle.seat_views.specs.LockSteps.{IsGlance, stamp_in}
use Rattle.seat_views.specs.States.{PassState}
use Rattle.seat_views.proofs.Hands.{glance_stamp}
use Rattle.seat_views.proofs.pass.Pass.glance_stamp.Goals as goal

pub returns : goal.returns
returns c = let same = ap (λ (p : PassState). p.flight) c.self.view_is in
    record { value = glance_stamp _ _ _ (subst IsGlance (sym same) c.requires.glance) c.self.invariant.5 ∙ ap stamp_in same }
