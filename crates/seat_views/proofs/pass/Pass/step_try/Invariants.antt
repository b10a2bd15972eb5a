use Rattle.place_core.specs.declared.places.WordOp.TheVariants as op
use Rattle.seat_views.specs.Steps.{asked}
use Rattle.seat_views.proofs.pass.Pass.step_try.Given as goal

abbrev pub ghosts-try_as : goal.ghosts-try_as
ghosts-try_as a = record { ask = asked a.spot.kind a.spot.shift a.spot.width a.object a.call.now op.Load }
