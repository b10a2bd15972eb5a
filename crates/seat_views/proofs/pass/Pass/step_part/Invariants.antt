use Rattle.seat_views.specs.Steps.{asked_part}
use Rattle.seat_views.proofs.pass.Pass.step_part.Given as goal

abbrev pub ghosts-part_as : goal.ghosts-part_as
ghosts-part_as a = record { ask = asked_part a.part }
