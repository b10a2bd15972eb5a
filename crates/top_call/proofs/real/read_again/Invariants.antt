use Rattle.std.specs.Io.KnownBytes.{Keeps}
use Rattle.top_call.proofs.real.read_again.Given as goal

-- the tries before this one were interrupted, and changed nothing
abbrev pub invariant-tries : goal.invariant-tries
invariant-tries g l = Keeps (g.R.Read.remaining l.fn.reader) (g.R.Read.remaining l.reader)
