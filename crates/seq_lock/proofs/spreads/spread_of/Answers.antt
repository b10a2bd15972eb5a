use Rattle.std.proofs.Common.{ap, sym, subst, ◌∙◌}
use Rattle.place_core.specs.declared.shape.Shape.{Shape}
use Rattle.place_core.specs.Shapes.{IsShape}
use Rattle.seat_views.specs.Places.{parts_of}
use Rattle.seat_views.proofs.Spots.{parts_facts}
use Rattle.seq_lock.proofs.Counts.{spread_count}
use Rattle.seq_lock.proofs.spreads.spread_of.Goals as goal

pub returns-clause-parts : goal.returns-clause-parts
returns-clause-parts c = let s = c.shape.ensures in let f = parts_facts _ (subst IsShape (sym s.value) s.valid) _ _ _ _ _ _ c.at.ensures c.in-Parts.is in
    (spread_count c.shape.result.now c.args.object _ _ _ _ _ c.at.ensures c.in-Parts.is ∙ ap (λ (S : Shape). parts_of S c.args.object) s.value, f.some)

pub returns-clause-bits : goal.returns-clause-bits
returns-clause-bits c = let s = c.shape.ensures in let f = parts_facts _ (subst IsShape (sym s.value) s.valid) _ _ _ _ _ _ c.at.ensures c.in-Parts.is in
    (f.word ∙ ap (λ (S : Shape). S.word_bits) s.value, f.positive, f.within)

pub returns-clause-all : goal.returns-clause-all
returns-clause-all c = let s = c.shape.ensures in let f = parts_facts _ (subst IsShape (sym s.value) s.valid) _ _ _ _ _ _ c.at.ensures c.in-Parts.is in f.all
