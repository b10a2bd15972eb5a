use Rattle.std.proofs.Common.{refl}
use Rattle.work_lang.proofs.Pieces.{writes_fail, writes_then}
use Rattle.work_lang.proofs.canonical.write_thread.Goals as goal

pub returns-in-Err-write_pieces : goal.returns-in-Err-write_pieces
returns-in-Err-write_pieces g c = writes_then refl c.in-Ok.is c.write_line.ensures (writes_fail _ refl c.in-Err-write_pieces.is c.write_pieces.ensures)

pub returns : goal.returns
returns g c = writes_then refl c.in-Ok.is c.write_line.ensures (writes_then refl c.in-Ok-write_pieces.is c.write_pieces.ensures c.write_line-2.ensures)
