use Rattle.seat_views.proofs.LockUses.{sees_more}
use Rattle.seat_views.proofs.trials.see_all.Goals as goal

pub loop-i-preserved : goal.loop-i-preserved
loop-i-preserved c = sees_more _ _ _ _ _ _ c.loop-i.invariant c.step_part.ensures
