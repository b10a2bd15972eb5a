use Rattle.std.proofs.Common.{map, ◌∙◌, subst}
use Rattle.place_core.specs.Pieces.{script_lines}
use Rattle.work_lang.specs.Spelling.{Pairs}
use Rattle.work_lang.specs.Second.{AreLongestRuns}
use Rattle.work_lang.proofs.SecondForms.{rewritten_is_work, is_rewritten}
use Rattle.work_lang.proofs.second.to_second.Goals as goal

pub of_parts-requires : goal.of_parts-requires
of_parts-requires c =
    rewritten_is_work c.args.work _ c.version.ensures.kept
    (is_rewritten c.args.work _ _ _ _ _ c.version.ensures.kept c.into_parts-objects.ensures.value (λ e. c.if-version-eq2.false (c.version.ensures.value ∙ e))
    (subst (λ scripts. Pairs AreLongestRuns (map script_lines scripts) c.in-Ok.threads.items) c.threads.ensures.value c.in-Ok.ensures))
