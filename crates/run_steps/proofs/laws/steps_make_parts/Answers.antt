-- Each choice is the move of a next entry, and each next entry's move is a choice.
use Rattle.run_steps.proofs.Reaching.{steps_make_parts}
use Rattle.run_steps.proofs.laws.steps_make_parts.Goals as goal

pub returns : goal.returns
returns c = steps_make_parts
