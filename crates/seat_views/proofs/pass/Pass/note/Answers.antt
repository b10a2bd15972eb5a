use Rattle.std.proofs.Common.{rules}
use Rattle.seat_views.proofs.MoveSteps.{notes}
use Rattle.seat_views.proofs.pass.Pass.note.Goals as goal

pub split_seat-requires : goal.split_seat-requires
split_seat-requires c = let sound = c.self.invariant.3 in (search rules, search rules, notes _ _ _ sound.role)
