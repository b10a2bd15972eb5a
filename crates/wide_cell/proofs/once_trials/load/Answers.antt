use Rattle.wide_cell.proofs.ItemCounts.{load_items}
use Rattle.wide_cell.proofs.once_trials.load.Goals as goal

pub returns-clause-items : goal.returns-clause-items
returns-clause-items g c = load_items _ _ c.requires.two _ _ _ c.call.ensures
