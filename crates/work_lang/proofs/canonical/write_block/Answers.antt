use Rattle.std.proofs.Common.{refl}
use Rattle.work_lang.proofs.Pieces.{writes_fail, writes_then}
use Rattle.work_lang.proofs.canonical.write_block.Goals as goal

pub returns-in-Err : goal.returns-in-Err
returns-in-Err g c = writes_fail _ refl c.in-Err.is c.write_repeat.ensures

pub returns-in-Err-write_calls : goal.returns-in-Err-write_calls
returns-in-Err-write_calls g c = writes_then refl c.in-Ok.is c.write_repeat.ensures (writes_fail _ refl c.in-Err-write_calls.is c.write_calls.ensures)

pub returns : goal.returns
returns g c = writes_then refl c.in-Ok.is c.write_repeat.ensures (writes_then refl c.in-Ok-write_calls.is c.write_calls.ensures c.write_line.ensures)
