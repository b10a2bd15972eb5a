use Rattle.std.specs.Io.Buffered.{writer_contents}
use Rattle.std.specs.Io.KnownBytes.{Keeps}
use Rattle.top_call.proofs.real.write_again.Given as goal

-- the tries before this one were interrupted, and changed nothing
abbrev pub invariant-tries : goal.invariant-tries
invariant-tries g l = Keeps (writer_contents g.W.Write.contents l.fn.writer) (writer_contents g.W.Write.contents l.writer)
