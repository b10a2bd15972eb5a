use Rattle.std.proofs.Common.{rules, sym, ◌∙◌, ap, subst}
use Rattle.any_size.specs.Steps.{HoldsClean}
use Rattle.any_size.specs.States.{BlockPassState}
use Rattle.any_size.proofs.Ties.{held_given}
use Rattle.any_size.proofs.steps.held.Goals as goal

pub load-requires : goal.load-requires
load-requires c = held_given c.blocks-2.inside.table.shared.table_id c.blocks-2.inside.table.shared.key c.blocks-2.invariant.words c.blocks-2.invariant.some_lock _ _ _ _ _ c.blocks-2.view_is _ _ (ap (λ (p : BlockPassState). p.blocks) c.pass.view_is ∙ c.requires.blocks.table) c.requires.spot _ c.requires.index
    (subst (λ (p : BlockPassState). HoldsClean c.args.object c.args.index p.hold) (sym c.pass.view_is) c.requires.hold) (ap (λ (p : BlockPassState). p.starts) c.pass.view_is ∙ c.requires.blocks.starts)
