use Rattle.any_size.specs.Trials.{IsReadyRoot}
use Rattle.any_size.proofs.trials.give_many.Given as goal

abbrev pub invariant-loop-i : goal.invariant-loop-i
invariant-loop-i l = IsReadyRoot l.blocks l.root
