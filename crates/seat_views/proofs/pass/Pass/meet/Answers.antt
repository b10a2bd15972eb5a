use Rattle.std.proofs.Common.{rules, refl}
use Rattle.seat_views.proofs.MoveSteps.{meets, hears}
use Rattle.seat_views.proofs.pass.Pass.meet.Goals as goal

pub join_seat-requires : goal.join_seat-requires
join_seat-requires c = let sound = c.self.invariant.3 in
    (search rules, search rules, search rules, search rules, meets _ _ _ _ _ sound.role c.self.invariant.4 c.into_seat-seat.ensures.seat.1 c.into_seat-seat.ensures.seat.2)

pub load-requires : goal.load-requires
load-requires c = let sound = c.self.invariant.3 in rw (c.join_seat.ensures.2) (search rules, search rules, hears _ _ _ _ _ sound.role refl)
