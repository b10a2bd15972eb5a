use Rattle.std.proofs.Common.{sym, ◌∙◌, arith}
use Rattle.op_table.proofs.Digits.{overflows}
use Rattle.op_table.proofs.numeral.read_digits.Goals as goal

pub returns-in-None : goal.returns-in-None
returns-in-None c = sym (overflows c.args.base c.digits.n c.digits.rest.now (omega arith) (sym c.is_digit.ensures ∙ c.if-not-is_digit.false) (sym c.are_digits.ensures ∙ c.if-are_digits.true) cc) ∙ c.digits.invariant.so_far
