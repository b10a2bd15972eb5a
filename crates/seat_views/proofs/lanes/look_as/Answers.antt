use Rattle.seat_views.proofs.Ties.{tie, look_given}
use Rattle.seat_views.proofs.lanes.look_as.Goals as goal

pub load-requires : goal.load-requires
load-requires g c = look_given _ _ _ _ _ (tie _ _ _ _ _ c.arena.view_is c.arena.invariant.0 c.arena.invariant.1 c.arena.invariant.2 c.requires.arena) _ _ _ g.J.Asking.ask _ _ _ _ _ c.requires.asked _ c.requires.object c.requires.kind c.requires.pass
