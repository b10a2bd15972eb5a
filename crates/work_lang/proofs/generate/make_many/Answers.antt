use Rattle.std.proofs.Common.{sym, subst}
use Rattle.work_lang.specs.Workload.{Workload, IsWork}
use Rattle.work_lang.proofs.GeneratedWorks.{generated_is_work, made_is}
use Rattle.work_lang.proofs.generate.make_many.Goals as goal

pub of_parts-requires : goal.of_parts-requires
of_parts-requires c =
    let made = made_is c.args.seed c.args.threads c.args.calls c.generated_target.result c.in_ok-objects.objects.items c.seed_from_u64-generator.result c.in_ok-scripts.scripts.items
    c.generated_target.ensures c.in_ok-objects.ensures c.seed_from_u64-generator.ensures c.in_ok-scripts.ensures in
    subst (λ (w : Workload). IsWork w) (sym made) (generated_is_work c.args.seed c.args.threads c.args.calls c.requires)
