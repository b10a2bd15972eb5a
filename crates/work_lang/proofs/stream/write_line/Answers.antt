use Rattle.std.proofs.Common.{arith}
use Rattle.work_lang.proofs.Pieces.{line_written}
use Rattle.work_lang.proofs.stream.write_line.Goals as goal

-- at a fault nothing of it was taken, where the sink takes a line whole
pub returns : goal.returns
returns g c = line_written c.write_all.result c.args.line.now c.write_all.ensures.ok c.write_all.ensures.err (λ is. c.write_all.ensures.whole is (omega arith)) (λ is. omega (arith, c.write_all.ensures.once is (omega arith))) c.write_all.ensures.kept c.write_all.ensures.cause
