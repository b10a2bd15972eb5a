use Rattle.std.proofs.Common.{◌∙◌}
use Rattle.work_lang.proofs.Items.{content_allowed, said_ok}
use Rattle.work_lang.proofs.reader.Reader.take_line.Goals as goal

-- what a line says may come
pub add-requires-clause-allowed : goal.add-requires-clause-allowed
add-requires-clause-allowed c = content_allowed c.args.self.now c.args.line.now c.in-Some.item c.requires.kept (c.in_ok-said.ensures ∙ said_ok c.in-Some.is)
