use Rattle.std.proofs.Common.{ap, sym, subst, ◌∙◌}
use Rattle.place_core.specs.declared.shape.Shape.{Shape}
use Rattle.seat_views.specs.LockSteps.{HandFits, MayRelease}
use Rattle.seat_views.specs.States.{PassState}
use Rattle.seat_views.proofs.Hands.{ends_hold, release_value}
use Rattle.seat_views.proofs.LockLanding.{released_at}
use Rattle.seat_views.proofs.pass.Pass.step_release.Goals as goal

pub release_as-requires-clause-value : goal.release_as-requires-clause-value
release_as-requires-clause-value c =
    let cell = c.parts_cell-cell.ensures in
    let shaped = ap (λ (p : PassState). p.shape) c.self.view_is ∙ c.requires.arena.1 in
    let may = subst (λ (p : PassState). MayRelease c.args.arena.now.shape c.args.object c.args.call.now p.flight) (sym c.self.view_is) c.requires.hold in
    release_value c.args.arena.now.shape _ _ _ _ _ cell.place cell.bits.0 _ c.self.inside.hand _ c.join-value.ensures.value c.args.call.now may (subst (λ (S : Shape). HandFits S.word_bits c.self.inside.seat.me.0.flight c.self.inside.hand) shaped c.self.invariant.5)

pub returns : goal.returns
returns c =
    let cell = c.parts_cell-cell.ensures in
    let shaped = ap (λ (p : PassState). p.shape) c.self.view_is ∙ c.requires.arena.1 in
    let may = subst (λ (p : PassState). MayRelease c.args.arena.now.shape c.args.object c.args.call.now p.flight) (sym c.self.view_is) c.requires.hold in
    let fits = subst (λ (S : Shape). HandFits S.word_bits c.self.inside.seat.me.0.flight c.self.inside.hand) shaped c.self.invariant.5 in
    let value = release_value c.args.arena.now.shape _ _ _ _ _ cell.place cell.bits.0 _ c.self.inside.hand _ c.join-value.ensures.value c.args.call.now may fits in
    let stamp = c.stamp_after-stamp.ensures ∙ (ends_hold c.args.arena.now.shape c.args.object c.args.call.now c.self.inside.seat.me.0.flight c.self.inside.hand may fits).stored in
    released_at c.args.arena.now.shape c.args.object _ _ _ _ cell.place _ _ _ _ _ c.self.view_is c.release_as.ensures.same.0 _ _ _ _ _ shaped cell.kind.0 value stamp c.answer.ensures.value c.release_as.ensures.grows
