use Rattle.std.proofs.Common.{arith, sym}
use Rattle.op_table.proofs.ValueTexts.{read_is_value}
use Rattle.work_lang.specs.Operands.{position_kind}
use Rattle.work_lang.proofs.OperandTexts.{position_is_kind}
use Rattle.work_lang.proofs.operands.read_position.Goals as goal

pub overflow_cast-result : goal.overflow_cast-result
overflow_cast-result c = let small = read_is_value position_kind c.args.text.now c.in-Ok.p position_is_kind (sym c.in-Ok.ensures) in omega (arith, small)
