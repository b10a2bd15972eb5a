use Rattle.std.proofs.Common.{rules, sym, ◌∙◌, ap, subst}
use Rattle.any_size.specs.Histories.{size_of}
use Rattle.any_size.specs.Layout.{count_of}
use Rattle.any_size.specs.Steps.{MayRelease}
use Rattle.any_size.specs.States.{BlockPassState}
use Rattle.any_size.proofs.Ties.{release_given}
use Rattle.any_size.proofs.steps.release_as.Goals as goal

pub store-requires : goal.store-requires
store-requires g c = release_given c.blocks-2.inside.table.shared.table_id c.blocks-2.inside.table.shared.key c.blocks-2.invariant.words c.blocks-2.invariant.some_lock _ _ _ _ _ c.blocks-2.view_is _ _ (ap (λ (p : BlockPassState). p.blocks) c.pass.view_is ∙ c.requires.blocks.table) c.requires.spot c.args.call.now c.args.value.now g.J.Asking.ask c.requires.asked c.pass.invariant.sound.role c.requires.operands
    (subst (λ (p : BlockPassState). MayRelease c.args.object (count_of c.args.blocks.now.starts c.args.object) (size_of c.args.blocks.now.starts c.args.object) c.args.call.now c.args.value.now p.hold) (sym c.pass.view_is) c.requires.hold)
