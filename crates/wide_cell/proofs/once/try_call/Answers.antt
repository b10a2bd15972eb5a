use Rattle.std.proofs.Common.{sym, ◌∙◌}
use Rattle.wide_cell.proofs.OncePaths.{hit_once, missed_made, else_made}
use Rattle.wide_cell.proofs.once.try_call.Goals as goal

pub returns-in-Ok-clause-made : goal.returns-in-Ok-clause-made
returns-in-Ok-clause-made g c = hit_once _ _ c.requires.object _ _ _ _ c.requires.apart (sym c.is_load.ensures ∙ c.if-is_load.true) c.in-Ok.ensures.hit

pub returns-in-Err-clause-made : goal.returns-in-Err-clause-made
returns-in-Err-clause-made g c = missed_made _ _ c.requires.object _ _ _ _ _ _ c.requires.apart (sym c.is_load.ensures ∙ c.if-is_load.true) c.in-Err.ensures.missed c.try_locked.ensures.made

pub returns-clause-made : goal.returns-clause-made
returns-clause-made g c = else_made _ _ c.requires.object _ _ _ _ (sym c.is_load.ensures ∙ c.if-is_load.false) c.try_locked-2.ensures.made
