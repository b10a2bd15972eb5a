use Rattle.wide_cell.proofs.ItemCounts.{store_items}
use Rattle.wide_cell.proofs.once_trials.store.Goals as goal

pub returns-clause-items : goal.returns-clause-items
returns-clause-items g c = store_items _ _ c.requires.two _ _ _ _ c.call.ensures
