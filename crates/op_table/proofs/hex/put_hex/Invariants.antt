use Rattle.op_table.proofs.HexCells.{IsSpelled}
use Rattle.op_table.proofs.hex.put_hex.Given as goal

abbrev pub invariant-digits : goal.invariant-digits
invariant-digits l = IsSpelled l.cells l.at l.rest l.fn.n

abbrev pub decreases-digits : goal.decreases-digits
decreases-digits l = l.at
