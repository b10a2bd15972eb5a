use Rattle.std.proofs.Common.{sym}
use Rattle.op_table.proofs.ValueTexts.{read_is_value}
use Rattle.top_call.proofs.command.number_of.Goals as goal

pub returns-in-Ok-clause-fits : goal.returns-in-Ok-clause-fits
returns-in-Ok-clause-fits c = read_is_value c.args.kind _ c.in-Ok.n c.requires (sym c.in-Ok.ensures)
