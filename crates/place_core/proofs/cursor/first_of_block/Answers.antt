use Rattle.place_core.proofs.ScriptLists.{times_over-none}
use Rattle.place_core.proofs.cursor.first_of_block.Goals as goal

pub returns-in_default : goal.returns-in_default
returns-in_default c = times_over-none c.args.times c.args.block.now c.in_default.len_below
