use Rattle.any_size.specs.Trials.{IsReady}
use Rattle.any_size.proofs.trials.attempt_many.Given as goal

abbrev pub invariant-loop-i : goal.invariant-loop-i
invariant-loop-i l = IsReady l.blocks l.pass
