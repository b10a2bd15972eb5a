use Rattle.std.proofs.Common.{rules, ap, sym, subst}
use Rattle.seat_views.specs.States.{PassState}
use Rattle.seat_views.specs.LockSteps.{IsGlance}
use Rattle.seat_views.proofs.MoveSteps.{drops}
use Rattle.seat_views.proofs.pass.Pass.drop_glance.Goals as goal

pub load-requires : goal.load-requires
load-requires c = (search rules, search rules, drops _ _ _ _ (subst IsGlance (sym (ap (λ (p : PassState). p.flight) c.self.view_is)) c.requires.glance))
