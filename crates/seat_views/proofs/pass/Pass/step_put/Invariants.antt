use Rattle.seat_views.specs.Steps.{asked_part}
use Rattle.seat_views.proofs.pass.Pass.step_put.Given as goal

abbrev pub ghosts-put_as : goal.ghosts-put_as
ghosts-put_as a = record { ask = asked_part a.part }
