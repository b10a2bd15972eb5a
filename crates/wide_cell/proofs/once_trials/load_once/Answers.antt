use Rattle.wide_cell.proofs.ItemCounts.{if_some, if_none, load_once_items, load_none_items}
use Rattle.wide_cell.proofs.once_trials.load_once.Goals as goal

pub returns-clause-made : goal.returns-clause-made
returns-clause-made c = if_some _ _ c.try_call.result (λ r m. load_once_items _ _ c.requires.two _ _ r m) c.try_call.ensures.made

pub returns-clause-none : goal.returns-clause-none
returns-clause-none c = if_none _ _ c.try_call.result (load_none_items _ _ c.requires.two _ _) c.try_call.ensures.none
