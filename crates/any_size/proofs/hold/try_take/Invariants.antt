use Rattle.any_size.specs.Steps.{asked_object}
use Rattle.any_size.proofs.hold.try_take.Given as goal

abbrev pub ghosts-take_as : goal.ghosts-take_as
ghosts-take_as a = record { ask = asked_object a.object }
