use Rattle.run_ends.proofs.Ends.{ends_are_of_runs}
use Rattle.run_ends.proofs.laws.ends_are_of_runs.Goals as goal

pub returns : goal.returns
returns c = ends_are_of_runs
