use Rattle.seat_views.specs.Steps.{asked_object}
use Rattle.seat_views.proofs.pass.Pass.step_take.Given as goal

abbrev pub ghosts-take_as : goal.ghosts-take_as
ghosts-take_as a = record { ask = asked_object a.object a.arena.now.first_stamp }
