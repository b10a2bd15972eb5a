use Rattle.std.proofs.Common.{◌≡◌, ◌∙◌, arith}
use Rattle.wide_cell.proofs.LookSteps.{looking_more, end_hit, end_missed}
use Rattle.wide_cell.proofs.look.glance.Goals as goal

pub loop-part-preserved : goal.loop-part-preserved
loop-part-preserved c = looking_more _ _ c.requires.object _ _ _ c.loop-part.invariant _ _ c.glance_part.ensures

pub returns-clause-hit : goal.returns-clause-hit
returns-clause-hit c = let done : c.loop-part.part ≡ c.spread_of-parts.result.parts = omega arith in
    end_hit _ _ c.requires.object _ _ _ (done ∙ c.spread_of-parts.ensures.parts.0) c.loop-part.invariant _ _ c.glance_end.ensures.stands

pub returns-clause-missed : goal.returns-clause-missed
returns-clause-missed c = let done : c.loop-part.part ≡ c.spread_of-parts.result.parts = omega arith in
    end_missed _ _ c.requires.object _ _ _ (done ∙ c.spread_of-parts.ensures.parts.0) c.loop-part.invariant _ _ c.glance_end.ensures.missed
