use Rattle.std.proofs.Common.{rules}
use Rattle.seat_views.proofs.Landing.{look_made}
use Rattle.seat_views.proofs.pass.Pass.step_look.Goals as goal
use Rattle.seat_views.proofs.pass.Pass.step_look.Goals.{then-look_settles, else-look_settles}

pub returns-clause-made : goal.returns-clause-made
returns-clause-made c = let spot = c.lane_spot-spot.ensures in let step = c.look_as-found.ensures in elim c.if-look_settles.branch [
  | then-look_settles w ↦ rw w.result-is (look_made _ _ _ _ _ _ spot.place spot.kind _ _ _ _ _ c.self.view_is step.same.0 _ _ _ _ c.lane_bits-value.ensures.value (search rules) w.answer.ensures.value step.made)
  | else-look_settles w ↦ rw w.result-is tt
]
