use Rattle.std.proofs.Common.{map, drop}
use Rattle.work_lang.specs.Streams.{WroteUpTo}
use Rattle.top_call.specs.Texts.{target_row}
use Rattle.top_call.proofs.describing.write_rows.Given as goal

-- the rows before this one were written
abbrev pub invariant-loop-row : goal.invariant-loop-row
invariant-loop-row g l = WroteUpTo g.K.Sink.taken g.K.Sink.faults g.K.Sink.tries g.K.Sink.whole l.fn.sink l.sink (map target_row (map (λ row. (row.0.now, row.1)) l.rows)) (map target_row (map (λ row. (row.0.now, row.1)) (drop l.row-index l.rows)))
