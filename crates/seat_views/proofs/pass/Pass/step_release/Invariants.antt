use Rattle.seat_views.specs.Steps.{asked_value}
use Rattle.seat_views.proofs.pass.Pass.step_release.Given as goal

abbrev pub ghosts-release_as : goal.ghosts-release_as
ghosts-release_as a = record { ask = asked_value a.cell.kind a.object a.call.now a.value }
