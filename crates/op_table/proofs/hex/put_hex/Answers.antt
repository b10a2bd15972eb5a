use Rattle.std.proofs.Common.{arith}
use Rattle.op_table.proofs.HexCells.{spelled_first, spelled_more, spelled_all}
use Rattle.op_table.proofs.hex.put_hex.Goals as goal

pub digits-init : goal.digits-init
digits-init c = spelled_first c.args.cells.now c.args.n c.requires (omega arith)

pub digits-preserved : goal.digits-preserved
digits-preserved c = spelled_more c.digits.cells c.digits.at c.digits.rest c.args.n _ (omega arith) c.digits.invariant c.digits-test.true c.glyph.ensures

pub returns-clause-digits : goal.returns-clause-digits
returns-clause-digits c = spelled_all c.digits.cells c.digits.at c.digits.rest c.args.n _ (omega arith) c.digits.invariant (omega arith) c.glyph-2.ensures
