use Rattle.seat_views.proofs.LockUses.{sees_more}
use Rattle.wide_cell.proofs.trials.see_all.Goals as goal

pub loop-part-preserved : goal.loop-part-preserved
loop-part-preserved c = sees_more _ _ _ _ _ _ c.loop-part.invariant c.glance_part.ensures
