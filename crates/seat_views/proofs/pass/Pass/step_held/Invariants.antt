use Rattle.seat_views.specs.Steps.{asked_part}
use Rattle.seat_views.proofs.pass.Pass.step_held.Given as goal

abbrev pub ghosts-held_as : goal.ghosts-held_as
ghosts-held_as a = record { ask = asked_part a.part }
