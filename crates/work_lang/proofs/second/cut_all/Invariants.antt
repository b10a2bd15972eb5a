use Rattle.std.proofs.Common.{length, ◌≤◌}
use Rattle.std.specs.List.{AllByRecursion}
use Rattle.work_lang.specs.Workload.{calls_made}
use Rattle.work_lang.specs.Cutting.{AreCutSoFar}
use Rattle.work_lang.proofs.second.cut_all.Given as goal

abbrev pub invariant-scripts : goal.invariant-scripts
invariant-scripts l = record {
  few : AllByRecursion (λ script. calls_made script ≤ 65536) l.rest;
  cut : AreCutSoFar l.scripts l.rest l.made.items;
}

abbrev pub decreases-scripts : goal.decreases-scripts
decreases-scripts l = length l.rest
