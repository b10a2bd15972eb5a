use Rattle.std.proofs.Common.{rules, ◌∙◌, ap, refl}
use Rattle.seat_views.specs.States.{PassState}
use Rattle.seat_views.proofs.MoveSteps.{joins, learns}
use Rattle.seat_views.proofs.pass.Pass.take_back.Goals as goal

pub join_seat-requires : goal.join_seat-requires
join_seat-requires c = let sound = c.self.invariant.3 in let too = c.pass.invariant.3 in
    let zero_is = ap (λ (p : PassState). p.number) c.self.view_is ∙ c.requires.root in
    let idle = ap (λ (p : PassState). p.flight) c.pass.view_is ∙ c.requires.rest.1 in
    (search rules, search rules, search rules, search rules, joins _ _ _ _ _ sound.role zero_is c.self.invariant.4 too.role c.pass.invariant.4 idle)

pub load-requires : goal.load-requires
load-requires c = let sound = c.self.invariant.3 in rw (c.join_seat.ensures.2) (search rules, search rules, learns _ _ _ _ _ _ _ _ _ sound.role refl)
