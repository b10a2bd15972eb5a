use Rattle.std.proofs.Common.{◌≡◌, ◌++◌, map}
use Rattle.std.specs.Vec.Iter.{into_iter_items}
use Rattle.runner.specs.declared.worker.Worker.{Worker}
use Rattle.whole_run.specs.Stages.{HasManned}
use Rattle.whole_run.proofs.manned.man_all.Given as goal

-- the scripts so far have passes, and with those that are left they are all
abbrev pub invariant-loop-script : goal.invariant-loop-script
invariant-loop-script l = HasManned l.keep l.arena l.workers.items l.root × (map (λ (w : Worker). w.script) l.workers.items ++ into_iter_items l.script-iterator ≡ l.fn.scripts.items)
