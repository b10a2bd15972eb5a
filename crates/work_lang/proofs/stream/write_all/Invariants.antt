use Rattle.std.proofs.Common.{◌≡◌, ◌<◌, ◌≤◌, true, length}
use Rattle.std.specs.Io.KnownBytes.{Keeps}
use Rattle.work_lang.proofs.KnownSteps.{TookFront}
use Rattle.work_lang.proofs.Tries.{Tried}
use Rattle.work_lang.proofs.stream.write_all.Given as goal

-- where the sink takes a short piece whole, nothing of it is taken, and it isn't tried, while some of it is left
abbrev pub invariant-writes : goal.invariant-writes
invariant-writes g l = record {
  took : TookFront (g.K.Sink.taken l.fn.sink) (g.K.Sink.taken l.sink) l.piece l.rest;
  same : g.K.Sink.faults l.sink ≡ g.K.Sink.faults l.fn.sink;
  kept : g.K.Sink.whole l.sink ≡ g.K.Sink.whole l.fn.sink;
  none : g.K.Sink.whole l.fn.sink ≡ true → length l.piece ≤ 256 → 0 < length l.rest → Keeps (g.K.Sink.taken l.fn.sink) (g.K.Sink.taken l.sink);
  once : g.K.Sink.whole l.fn.sink ≡ true → length l.piece ≤ 256 → Tried (g.K.Sink.tries l.fn.sink) (g.K.Sink.tries l.sink) (length l.piece) (length l.rest);
}

abbrev pub decreases-writes : goal.decreases-writes
decreases-writes g l = length l.rest
