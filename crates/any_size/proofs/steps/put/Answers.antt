use Rattle.std.proofs.Common.{rules, sym, ◌∙◌, ap, subst}
use Rattle.any_size.specs.Layout.{count_of}
use Rattle.any_size.specs.Steps.{HoldsRead}
use Rattle.any_size.specs.States.{BlockPassState}
use Rattle.any_size.proofs.Ties.{put_given}
use Rattle.any_size.proofs.steps.put.Goals as goal

pub store-requires : goal.store-requires
store-requires c = put_given c.blocks-2.inside.table.shared.table_id c.blocks-2.inside.table.shared.key c.blocks-2.invariant.words c.blocks-2.invariant.some_lock _ _ _ _ _ c.blocks-2.view_is _ _ (ap (λ (p : BlockPassState). p.blocks) c.pass.view_is ∙ c.requires.blocks.table) c.requires.spot _ _ c.requires.index
    (subst (λ (p : BlockPassState). HoldsRead c.args.object (count_of c.args.blocks.now.starts c.args.object) c.args.index p.hold) (sym c.pass.view_is) c.requires.hold)
