use Rattle.run_ends.proofs.Ends.{runs_have_ends}
use Rattle.run_ends.proofs.laws.runs_have_ends.Goals as goal

pub returns : goal.returns
returns c = runs_have_ends
