use Rattle.run_ends.proofs.Ends.{last_loads_tell_values}
use Rattle.run_ends.proofs.laws.last_loads_tell_values.Goals as goal

pub returns : goal.returns
returns c = last_loads_tell_values
