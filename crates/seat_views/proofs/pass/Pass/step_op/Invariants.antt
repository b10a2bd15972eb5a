use Rattle.seat_views.specs.Steps.{asked}
use Rattle.seat_views.proofs.pass.Pass.step_op.Given as goal

abbrev pub ghosts-op_as : goal.ghosts-op_as
ghosts-op_as a = record { ask = asked a.spot.kind a.spot.shift a.spot.width a.object a.call.now a.op }
