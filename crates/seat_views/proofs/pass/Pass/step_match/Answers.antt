use Rattle.std.proofs.Common.{rules, ap, sym, subst, ◌∙◌}
use Rattle.place_core.specs.declared.shape.Shape.{Shape}
use Rattle.seat_views.specs.Places.{parts_of}
use Rattle.seat_views.specs.LockSteps.{HandFits, GlancesRead}
use Rattle.seat_views.specs.States.{PassState}
use Rattle.seat_views.proofs.Hands.{ends_glance, match_value}
use Rattle.seat_views.proofs.LockLanding.{matched_at}
use Rattle.seat_views.proofs.pass.Pass.step_match.Goals as goal
use Rattle.seat_views.proofs.pass.Pass.step_match.Goals.{then-found-stamp, else-found-stamp}

pub match_as-found-requires-clause-value : goal.match_as-found-requires-clause-value
match_as-found-requires-clause-value c =
    let cell = c.parts_cell-cell.ensures in
    let shaped = ap (λ (p : PassState). p.shape) c.self.view_is ∙ c.requires.arena.1 in
    let at = subst (λ (p : PassState). GlancesRead c.args.object (parts_of c.args.arena.now.shape c.args.object) p.flight) (sym c.self.view_is) c.requires.glance in
    match_value c.args.arena.now.shape _ _ _ _ _ cell.place cell.bits.0 _ c.self.inside.hand _ c.join-value.ensures.value at (subst (λ (S : Shape). HandFits S.word_bits c.self.inside.seat.me.0.flight c.self.inside.hand) shaped c.self.invariant.5)

pub returns-clause-stands : goal.returns-clause-stands
returns-clause-stands c =
    let cell = c.parts_cell-cell.ensures in
    let shaped = ap (λ (p : PassState). p.shape) c.self.view_is ∙ c.requires.arena.1 in
    let at = subst (λ (p : PassState). GlancesRead c.args.object (parts_of c.args.arena.now.shape c.args.object) p.flight) (sym c.self.view_is) c.requires.glance in
    let fits = subst (λ (S : Shape). HandFits S.word_bits c.self.inside.seat.me.0.flight c.self.inside.hand) shaped c.self.invariant.5 in
    let value = match_value c.args.arena.now.shape _ _ _ _ _ cell.place cell.bits.0 _ c.self.inside.hand _ c.join-value.ensures.value at fits in
    let stamp = (ends_glance c.args.arena.now.shape c.args.object c.self.inside.seat.me.0.flight c.self.inside.hand at fits).stamp in
    let step = c.match_as-found.ensures in elim c.if-found-stamp.branch [
      | then-found-stamp w ↦ rw w.result-is (matched_at c.args.arena.now.shape c.args.object _ _ _ _ cell.place _ _ _ _ _ c.self.view_is step.same.0 _ _ _ value stamp (search rules) step.stands)
      | else-found-stamp w ↦ rw w.result-is tt
    ]
