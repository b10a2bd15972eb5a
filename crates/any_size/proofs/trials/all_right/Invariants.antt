use Rattle.any_size.specs.Trials.{IsReady}
use Rattle.any_size.proofs.trials.all_right.Given as goal

abbrev pub invariant-loop-i : goal.invariant-loop-i
invariant-loop-i g l = IsReady l.blocks l.pass
