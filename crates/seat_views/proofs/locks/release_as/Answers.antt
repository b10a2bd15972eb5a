use Rattle.seat_views.proofs.Ties.{tie}
use Rattle.seat_views.proofs.LockTies.{release_given}
use Rattle.seat_views.proofs.locks.release_as.Goals as goal

pub store-requires : goal.store-requires
store-requires g c = release_given _ _ _ _ _ (tie _ _ _ _ _ c.arena.view_is c.arena.invariant.0 c.arena.invariant.1 c.arena.invariant.2 c.requires.arena) _ _ _ _ _ _ _ _ c.requires.object g.J.Asking.ask _ _ _ _ c.requires.asked c.requires.kind c.requires.pass c.requires.fits c.requires.hold c.requires.value c.requires.stamp
