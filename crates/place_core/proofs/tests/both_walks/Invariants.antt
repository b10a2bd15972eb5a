use Rattle.std.proofs.Common.{length}
use Rattle.place_core.proofs.tests.both_walks.Given as goal

abbrev pub decreases-lines : goal.decreases-lines
decreases-lines l = length l.lines
