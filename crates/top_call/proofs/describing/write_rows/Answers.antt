use Rattle.work_lang.proofs.Pieces.{wrote_more, wrote_stops}
use Rattle.top_call.proofs.TargetRows.{named_at, lines_at}
use Rattle.top_call.proofs.describing.write_rows.Goals as goal

pub write_row-requires : goal.write_row-requires
write_row-requires g c = named_at (λ row. (row.0.now, row.1)) c.args.rows.now c.loop-row.row-index _ c.loop-row-test.true c.requires

pub returns-in-Err : goal.returns-in-Err
returns-in-Err g c = wrote_stops _ (lines_at (λ row. (row.0.now, row.1)) c.args.rows.now c.loop-row.row-index _ c.loop-row-test.true) c.in-Err.is c.loop-row.invariant c.write_row.ensures

pub loop-row-preserved : goal.loop-row-preserved
loop-row-preserved g c = wrote_more (lines_at (λ row. (row.0.now, row.1)) c.args.rows.now c.loop-row.row-index _ c.loop-row-test.true) c.in-Ok.is c.loop-row.invariant c.write_row.ensures
