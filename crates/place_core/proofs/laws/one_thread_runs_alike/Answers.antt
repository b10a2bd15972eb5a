use Rattle.place_core.proofs.RunsAlike.{one_thread_runs_alike}
use Rattle.place_core.proofs.laws.one_thread_runs_alike.Goals as goal

pub returns : goal.returns
returns c = one_thread_runs_alike
