use Rattle.std.proofs.Common.{sym, ◌∙◌}
use Rattle.op_table.proofs.Minus.{minus_zero, minus_some, minus_fault}
use Rattle.op_table.proofs.value.read_negative.Goals as goal

pub returns-then-n-eq0 : goal.returns-then-n-eq0
returns-then-n-eq0 c = sym (minus_zero c.args.kind c.args.digits.now c.in-Ok.n (sym c.read_numeral.ensures ∙ c.in-Ok.is) c.if-n-eq0.true)

pub returns-else-n-eq0 : goal.returns-else-n-eq0
returns-else-n-eq0 c = c.negative.ensures ∙ sym (minus_some c.args.kind c.args.digits.now c.in-Ok.n (sym c.read_numeral.ensures ∙ c.in-Ok.is) c.if-n-eq0.false)

pub returns-in-Err : goal.returns-in-Err
returns-in-Err c = sym (minus_fault c.args.kind c.args.digits.now c.in-Err.fault (sym c.read_numeral.ensures ∙ c.in-Err.is))
