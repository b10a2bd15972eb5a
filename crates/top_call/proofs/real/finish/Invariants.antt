use Rattle.std.specs.Io.KnownBytes.{Keeps}
use Rattle.top_call.proofs.real.finish.Given as goal

-- the tries before this one were interrupted, and changed nothing
abbrev pub invariant-tries : goal.invariant-tries
invariant-tries g l = Keeps (g.W.Write.contents l.fn.writer) (g.W.Write.contents l.writer)
