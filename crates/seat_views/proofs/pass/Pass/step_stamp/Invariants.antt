use Rattle.seat_views.specs.Steps.{asked_object}
use Rattle.seat_views.proofs.pass.Pass.step_stamp.Given as goal

abbrev pub ghosts-stamp_as : goal.ghosts-stamp_as
ghosts-stamp_as a = record { ask = asked_object a.object a.arena.now.first_stamp }
