use Rattle.std.proofs.Common.{rules, ◌∙◌, ap, refl}
use Rattle.any_size.specs.States.{BlockPassState}
use Rattle.any_size.proofs.MoveSteps.{joins, learns}
use Rattle.any_size.proofs.pass.BlockPass.take_back.Goals as goal

pub join_seat-requires : goal.join_seat-requires
join_seat-requires c = let sound = c.self.invariant.sound in let too = c.pass.invariant.sound in
    let zero_is = ap (λ (p : BlockPassState). p.number) c.self.view_is ∙ c.requires.root in
    let idle = ap (λ (p : BlockPassState). p.hold) c.pass.view_is ∙ c.requires.rest.1 in
    (search rules, search rules, c.pass.invariant.none, search rules, joins _ _ _ _ _ _ sound.role zero_is c.self.invariant.alone too.role c.pass.invariant.alone idle)

pub load-requires : goal.load-requires
load-requires c = let sound = c.self.invariant.sound in rw (c.join_seat.ensures.2) (search rules, search rules, learns _ _ _ _ _ _ _ _ _ _ sound.role refl)
