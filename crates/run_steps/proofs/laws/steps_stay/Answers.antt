-- The next entry makes a beginning of a run of one.
use Rattle.run_steps.proofs.MachineFacts.{still_at}
use Rattle.run_steps.proofs.laws.steps_stay.Goals as goal

pub returns : goal.returns
returns c = still_at
