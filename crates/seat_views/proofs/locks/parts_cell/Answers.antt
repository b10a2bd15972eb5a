use Rattle.std.proofs.Common.{ap, sym, subst, ◌∙◌}
use Rattle.place_core.specs.declared.shape.Shape.{Shape}
use Rattle.place_core.specs.Shapes.{IsShape}
use Rattle.seat_views.proofs.Spots.{parts_facts}
use Rattle.seat_views.proofs.locks.parts_cell.Goals as goal

pub returns-clause-parts : goal.returns-clause-parts
returns-clause-parts c = let s = c.shape.ensures in let f = parts_facts _ (subst IsShape (sym s.value) s.valid) _ _ _ _ _ _ c.at-object.ensures c.in-Parts.is in (f.some, f.four)

pub returns-clause-bits : goal.returns-clause-bits
returns-clause-bits c = let s = c.shape.ensures in let f = parts_facts _ (subst IsShape (sym s.value) s.valid) _ _ _ _ _ _ c.at-object.ensures c.in-Parts.is in (f.word ∙ ap (λ (S : Shape). S.word_bits) s.value, f.positive, f.within)
