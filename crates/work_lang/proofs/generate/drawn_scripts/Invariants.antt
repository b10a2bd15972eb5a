use Rattle.std.specs.Prelude.{◌≡◌, ◌++◌}
use Rattle.work_lang.specs.Generated.{scripts_from}
use Rattle.work_lang.proofs.generate.drawn_scripts.Given as goal

abbrev pub invariant-threads : goal.invariant-threads
invariant-threads l = l.scripts.items ++ scripts_from l.left l.calls l.generator ≡ scripts_from l.threads l.calls l.fn.generator

abbrev pub decreases-threads : goal.decreases-threads
decreases-threads l = l.left
