use Rattle.seat_views.proofs.Ties.{tie}
use Rattle.seat_views.proofs.LockTies.{put_given}
use Rattle.seat_views.proofs.locks.put_as.Goals as goal

pub store-requires : goal.store-requires
store-requires g c = put_given _ _ _ _ _ (tie _ _ _ _ _ c.arena.view_is c.arena.invariant.0 c.arena.invariant.1 c.arena.invariant.2 c.requires.arena) _ _ _ _ _ _ _ _ c.requires.object g.J.Asking.ask _ _ c.requires.asked c.requires.part c.requires.number c.requires.hold
