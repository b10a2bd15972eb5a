use Rattle.std.proofs.Common.{rules, sym, ◌∙◌, ap}
use Rattle.any_size.specs.States.{BlockPassState}
use Rattle.any_size.proofs.Ties.{take_given}
use Rattle.any_size.proofs.steps.take_as.Goals as goal

pub swap-requires : goal.swap-requires
swap-requires g c = take_given c.blocks-2.inside.table.shared.table_id c.blocks-2.inside.table.shared.key c.blocks-2.invariant.words c.blocks-2.invariant.some_lock _ _ _ _ _ c.blocks-2.view_is _ _ (ap (λ (p : BlockPassState). p.blocks) c.pass.view_is ∙ c.requires.blocks.table) c.requires.spot g.J.Asking.ask c.requires.asked (ap (λ (p : BlockPassState). p.hold) c.pass.view_is ∙ c.requires.rest)
