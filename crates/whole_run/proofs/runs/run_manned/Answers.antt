use Rattle.std.proofs.Common.{◌≡◌, List, length, map, ap, sym, ◌∙◌, subst, arith}
use Rattle.runner.specs.declared.worker.Worker.{Worker}
use Rattle.runner.specs.Scripts.{AreReadyTo, HaveRunTo}
use Rattle.whole_run.specs.Stages.{AreDone, HaveKept, HaveNone}
use Rattle.whole_run.proofs.Manning.{AreManned-ready, AreManned-done, manned_kept, manned_none, HaveRun-scripts, HaveRun-length, ran_items}
use Rattle.whole_run.proofs.runs.run_manned.Goals as goal

pub run_each-requires-clause-ready : goal.run_each-requires-clause-ready
run_each-requires-clause-ready g c κs within =
    subst (AreReadyTo c.args.keep c.args.arena.now) (sym c.as_mut_slice.ensures.value) (AreManned-ready c.args.keep c.args.arena.now 1 c.args.workers.items c.requires.manned c.requires.fits)

pub returns : goal.returns
returns g c =
    let keep = c.args.keep in
    let a = c.args.arena.now in
    let old = c.args.workers.items in
    let seen = c.as_mut_slice.result.now in
    let new = c.run_each.new.workers in
    let size : length seen ≡ c.args.workers.len = omega (arith, c.as_mut_slice.ensures.len) in
    let is = ran_items c.args.workers.len old seen new size (HaveRun-length keep a.shape seen new c.run_each.ensures) in
    let ran = subst (λ (ws : List Worker). HaveRunTo keep a.shape ws new) c.as_mut_slice.ensures.value c.run_each.ensures in
    record {
      done = subst (AreDone a 1) (sym is) (AreManned-done keep a 1 old new c.requires.manned ran);
      kept = λ same. subst HaveKept (sym is) (manned_kept keep a old new same c.requires.manned ran);
      none = λ same. subst HaveNone (sym is) (manned_none keep a old new same c.requires.manned ran);
      scripts = ap (map (λ (w : Worker). w.script)) is ∙ HaveRun-scripts keep a.shape old new ran;
      count = ap length is ∙ HaveRun-length keep a.shape old new ran;
    }
