use Rattle.std.proofs.Common.{length}
use Rattle.place_core.specs.Pieces.{script_lines}
use Rattle.work_lang.specs.Cutting.{AreRunsSoFar}
use Rattle.work_lang.proofs.second.cut.Given as goal

abbrev pub invariant-lines : goal.invariant-lines
invariant-lines l = AreRunsSoFar (script_lines l.script) l.lines l.run.line l.run.times l.made

abbrev pub decreases-lines : goal.decreases-lines
decreases-lines l = length l.lines
