use Rattle.std.proofs.Common.{rules, ◌∙◌, ap, refl}
use Rattle.atomic_table.specs.Table.{Me}
use Rattle.seat_views.specs.declared.view.View.{View}
use Rattle.seat_views.specs.States.{PassState}
use Rattle.seat_views.proofs.Landing.{gave}
use Rattle.seat_views.proofs.MoveSteps.{gives, giver_sound, newcomer_sound}
use Rattle.seat_views.proofs.pass.Pass.give.Goals as goal

pub split_seat-seat-requires : goal.split_seat-seat-requires
split_seat-seat-requires c = let sound = c.self.invariant.3 in let zero_is = ap (λ (p : PassState). p.number) c.self.view_is ∙ c.requires.root in
    (search rules, search rules, gives _ _ _ sound.role zero_is)

pub of-requires-clause-none : goal.of-requires-clause-none
of-requires-clause-none c = rw (c.split_seat-seat.ensures.4) (refl, refl, refl)

pub of-requires-clause-sound : goal.of-requires-clause-sound
of-requires-clause-sound c = let zero_is = ap (λ (p : PassState). p.number) c.self.view_is ∙ c.requires.root in
    rw (c.split_seat-seat.ensures.4) (newcomer_sound _ c.self.invariant.3 zero_is)

pub invariant_of-self : goal.invariant_of-self
invariant_of-self c = rw (c.split_seat-seat.ensures.2) (c.self.invariant.0, search rules, c.self.invariant.2, giver_sound _ c.self.invariant.3, c.self.invariant.4, c.self.invariant.5)

pub returns : goal.returns
returns c = let e = c.split_seat-seat.ensures in
    gave _ _ _ _ _ _ _ _ c.self.view_is e.0 e.3 (ap (λ (m : Me (Unit {0}) View). m.0) e.2) (ap (λ (m : Me (Unit {0}) View). m.0) e.4) c.of.ensures c.self.invariant.3 c.requires.root (search rules)
