use Rattle.seat_views.proofs.Ties.{tie}
use Rattle.seat_views.proofs.LockTies.{part_given}
use Rattle.seat_views.proofs.locks.part_as.Goals as goal

pub load-requires : goal.load-requires
load-requires g c = part_given _ _ _ _ _ (tie _ _ _ _ _ c.arena.view_is c.arena.invariant.0 c.arena.invariant.1 c.arena.invariant.2 c.requires.arena) _ _ _ _ _ _ _ _ c.requires.object g.J.Asking.ask _ c.requires.asked c.requires.part c.requires.pass c.requires.glance
