use Rattle.std.proofs.Common.{◌≡◌, ◌∷◌, ◌≤◌, arith, rules, subst}
use Rattle.std.specs.List.{AllByRecursion}
use Rattle.work_lang.specs.Workload.{calls_made}
use Rattle.work_lang.proofs.Firsts.{others, item_others}
use Rattle.work_lang.proofs.Cutting.{one_cut_more}
use Rattle.work_lang.proofs.second.cut_all.Goals as goal

pub cut-requires : goal.cut-requires
cut-requires c =
    (subst (AllByRecursion (λ script. calls_made script ≤ 65536)) (item_others c.scripts.rest.now c.script-item.result (omega arith) c.script-item.is) c.scripts.invariant.few).0

pub scripts-preserved : goal.scripts-preserved
scripts-preserved c =
    let rest : c.scripts.rest.now ≡ c.script-item.result ∷ others c.scripts.rest.now = item_others c.scripts.rest.now c.script-item.result (omega arith) c.script-item.is in
    record {
      few = (subst (AllByRecursion (λ script. calls_made script ≤ 65536)) rest c.scripts.invariant.few).1;
      cut = one_cut_more _ _ _ _ _ _ _ rest (search rules) c.in_ok-cut.ensures c.scripts.invariant.cut;
    }
