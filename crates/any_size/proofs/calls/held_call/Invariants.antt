use Rattle.any_size.specs.Steps.{asked_value}
use Rattle.any_size.proofs.calls.held_call.Given as goal

abbrev pub ghosts-release_as : goal.ghosts-release_as
ghosts-release_as a = record { ask = asked_value a.object a.call.now a.value.now }
