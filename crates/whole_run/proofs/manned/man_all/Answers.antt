use Rattle.std.proofs.Common.{◌++◌, List, map, ap, sym, ◌∙◌, subst}
use Rattle.std.specs.Vec.Iter.{into_iter_items}
use Rattle.runner.specs.declared.worker.Worker.{Worker}
use Rattle.whole_run.specs.Stages.{HasManned}
use Rattle.whole_run.proofs.Manning.{manned_more, scripts_more}
use Rattle.whole_run.proofs.manned.man_all.Goals as goal

pub loop-script-preserved : goal.loop-script-preserved
loop-script-preserved c =
    let left = into_iter_items c.next.new.self in
    let w = c.in_ok-worker.worker in
    let next = manned_more c.args.keep c.args.arena.now c.loop-script.workers.items c.loop-script.root w c.man.new.root c.loop-script.invariant.0 c.in_ok-worker.ensures.root c.in_ok-worker.ensures.kept c.in_ok-worker.ensures.manned in
    let all = scripts_more c.loop-script.workers.items w c.in-Some.script (into_iter_items c.loop-script.script-iterator) left c.args.scripts.items c.loop-script.invariant.1 c.in-Some.ensures.steps.0 c.in_ok-worker.ensures.script in (
      subst (λ (ws : List Worker). HasManned c.args.keep c.args.arena.now ws c.man.new.root) (sym c.in-Ok.ensures.items) next,
      ap (λ (ws : List Worker). map (λ (v : Worker). v.script) ws ++ left) c.in-Ok.ensures.items ∙ all,
    )
