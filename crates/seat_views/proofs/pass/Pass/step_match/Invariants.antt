use Rattle.seat_views.specs.Steps.{asked_match}
use Rattle.seat_views.proofs.pass.Pass.step_match.Given as goal

abbrev pub ghosts-match_as : goal.ghosts-match_as
ghosts-match_as a = record { ask = asked_match a.object a.value a.stamp }
