use Rattle.std.proofs.Common.{rules, ◌∙◌, ◌+◌, ap}
use Rattle.atomic_table.specs.Table.{Me}
use Rattle.any_size.specs.declared.view.BlockView.{BlockView}
use Rattle.any_size.specs.States.{BlockPassState}
use Rattle.any_size.proofs.Landing.{gave}
use Rattle.any_size.proofs.MoveSteps.{gives, giver_sound, newcomer_sound}
use Rattle.any_size.proofs.pass.BlockPass.give.Goals as goal

pub split_seat-seat-requires : goal.split_seat-seat-requires
split_seat-seat-requires c = let sound = c.self.invariant.sound in let zero_is = ap (λ (p : BlockPassState). p.number) c.self.view_is ∙ c.requires.root in
    (search rules, search rules, gives _ _ _ _ sound.role zero_is)

pub of-requires-clause-sound : goal.of-requires-clause-sound
of-requires-clause-sound c = let zero_is = ap (λ (p : BlockPassState). p.number) c.self.view_is ∙ c.requires.root in
    rw (c.split_seat-seat.ensures.4) (newcomer_sound _ c.self.invariant.sound zero_is)

pub invariant_of-self : goal.invariant_of-self
invariant_of-self c = let old = c.self.invariant in rw (c.split_seat-seat.ensures.2) record {
  number_is = old.number_is;
  given_is = ap (λ n. n + 1) old.given_is;
  none = old.none;
  sound = giver_sound _ old.sound;
  alone = old.alone;
}

pub returns : goal.returns
returns c = let e = c.split_seat-seat.ensures in
    gave _ _ _ _ _ _ _ _ c.self.view_is e.0 e.3 (ap (λ (m : Me (Unit {0}) BlockView). m.0) e.2) (ap (λ (m : Me (Unit {0}) BlockView). m.0) e.4) c.of.ensures c.self.invariant.sound c.requires.root (search rules)
