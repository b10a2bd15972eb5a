use Rattle.std.proofs.Common.{rules, ap, sym, subst, ◌∙◌, ◌≡◌, ◌<◌, ◌≤◌, length, slice_set}
use Rattle.seat_views.specs.declared.view.View.{View}
use Rattle.seat_views.specs.Places.{parts_of}
use Rattle.seat_views.specs.Steps.{IsSoundView}
use Rattle.seat_views.specs.LockSteps.{HandFits, GlancesAt}
use Rattle.seat_views.specs.States.{PassState}
use Rattle.seat_views.proofs.Hands.{part_hand}
use Rattle.seat_views.proofs.Landing.{moved_sound}
use Rattle.seat_views.proofs.ShapePlaces.{count_is}
use Rattle.seat_views.proofs.pass.Pass.step_part.Goals as goal

pub invariant_of-self : goal.invariant_of-self
invariant_of-self c =
    let e = c.part_as-found.ensures.read in
    let cell = c.parts_cell-cell.ensures in
    let count : parts_of c.args.arena.now.shape c.args.object ≡ c.parts_cell-cell.result.parts = count_is c.args.arena.now.shape c.args.object _ _ _ _ cell.place in
    let inside : c.args.part < parts_of c.args.arena.now.shape c.args.object = c.requires.part in
    let four : c.parts_cell-cell.result.parts ≤ 4 = cell.parts.1 in
    let lt : c.args.part < length c.self.inside.hand.read = search rules in
    let at = subst (λ (p : PassState). GlancesAt c.args.object p.flight) (sym c.self.view_is) c.requires.glance in (
      c.self.invariant.0 ∙ ap (λ (w : View). w.number) (sym e),
      c.self.invariant.1 ∙ ap (λ (w : View). w.given) (sym e),
      c.part_as-found.ensures.same.1 ∙ c.self.invariant.2,
      subst IsSoundView (sym e) (moved_sound _ _ _ c.self.invariant.3),
      ap (λ (w : View). w.beside) e ∙ c.self.invariant.4,
      subst (λ (w : View). HandFits w.shape.word_bits w.flight (record { stamp = c.self.inside.hand.stamp; wrote = c.self.inside.hand.wrote; read = slice_set c.self.inside.hand.read c.args.part c.part_as-found.result })) (sym e) (part_hand _ _ _ _ _ _ at lt c.part_as-found.ensures.small c.self.invariant.5),
    )
