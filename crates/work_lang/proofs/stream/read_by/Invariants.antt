use Rattle.std.proofs.Common.{◌≡◌, ◌-◌, ◌≤◌, length, vec_len}
use Rattle.std.specs.Io.KnownBytes.{Consumes}
use Rattle.work_lang.specs.Counts.{ReadSoFar}
use Rattle.work_lang.specs.Streams.{most_read}
use Rattle.work_lang.proofs.stream.read_by.Given as goal

abbrev pub invariant-reads : goal.invariant-reads
invariant-reads g l = record {
  short : vec_len l.all ≤ most_read;
  read : Consumes (g.S.Source.left l.fn.source) (g.S.Source.left l.source) l.all.items;
  far : ReadSoFar (g.S.Source.meter l.fn.source) (g.S.Source.meter l.source) (length l.all.items);
  same : g.S.Source.faults l.source ≡ g.S.Source.faults l.fn.source;
}

abbrev pub decreases-reads : goal.decreases-reads
decreases-reads g l = most_read - vec_len l.all
