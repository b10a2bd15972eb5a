use Rattle.std.proofs.Common.{◌*◌, ap, ◌∙◌}
use Rattle.place_core.proofs.ScriptLists.{length-block}
use Rattle.place_core.proofs.script.Piece.len.Goals as goal

pub returns-in-Block : goal.returns-in-Block
returns-in-Block c = ap (λ n. c.in-Block.times * n) c.len.ensures ∙ length-block c.args.self.now c.in-Block.times c.in-Block.lines c.in-Block.is
