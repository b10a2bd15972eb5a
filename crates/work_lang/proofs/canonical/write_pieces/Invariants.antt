use Rattle.std.proofs.Common.{◌-◌, ◌≤◌, length, drop}
use Rattle.std.specs.List.{flat_map}
use Rattle.work_lang.specs.Streams.{WroteUpTo}
use Rattle.work_lang.specs.Canonical.{piece_texts}
use Rattle.work_lang.proofs.canonical.write_pieces.Given as goal

abbrev pub invariant-pieces : goal.invariant-pieces
invariant-pieces g l = record {
  within : l.k ≤ length l.script;
  wrote : WroteUpTo g.K.Sink.taken g.K.Sink.faults g.K.Sink.tries g.K.Sink.whole l.fn.sink l.sink (flat_map (piece_texts l.objects) l.script) (flat_map (piece_texts l.objects) (drop l.k l.script));
}

abbrev pub decreases-pieces : goal.decreases-pieces
decreases-pieces g l = length l.script - l.k
