use Rattle.place_core.proofs.Earning.{other_change_counts}
use Rattle.place_core.proofs.laws.changes.other_change_counts.Goals as goal

pub returns : goal.returns
returns c = other_change_counts
