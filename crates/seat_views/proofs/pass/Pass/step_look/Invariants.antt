use Rattle.place_core.specs.declared.places.WordOp.TheVariants as op
use Rattle.seat_views.specs.Steps.{asked}
use Rattle.seat_views.proofs.pass.Pass.step_look.Given as goal

abbrev pub ghosts-look_as : goal.ghosts-look_as
ghosts-look_as a = record { ask = asked a.spot.kind a.spot.shift a.spot.width a.object a.call.now op.Load }
