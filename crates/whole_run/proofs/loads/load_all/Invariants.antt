use Rattle.whole_run.proofs.Loading.{LoadsSoFar}
use Rattle.whole_run.proofs.loads.load_all.Given as goal

abbrev pub invariant-loop-object : goal.invariant-loop-object
invariant-loop-object g l = LoadsSoFar l.arena l.initial.root l.object l.replies l.root
