use Rattle.std.proofs.Common.{◌%◌, ◌<◌, length, subst, sym, ap, ◌∙◌, arith}
use Rattle.std.specs.Prelude.{slice_get}
use Rattle.std.proofs.lemmas.Nat.{mod_below}
use Rattle.place_core.proofs.ScriptLists.{block_has_lines, slice_get-block}
use Rattle.place_core.proofs.script.Piece.at.Goals as goal

pub nonzero_rem-i : goal.nonzero_rem-i
nonzero_rem-i c = omega (arith, block_has_lines c.args.self.now c.in-Block.times c.in-Block.lines c.args.i c.in-Block.is c.requires)

pub overflow_cast-i : goal.overflow_cast-i
overflow_cast-i c = omega (arith, mod_below c.args.i c.len.result (nonzero_rem-i c))

pub at-requires : goal.at-requires
at-requires c =
    let some : 0 < length c.in-Block.lines = block_has_lines c.args.self.now c.in-Block.times c.in-Block.lines c.args.i c.in-Block.is c.requires in
    subst (λ n. c.args.i % n < length c.in-Block.lines) (sym c.len.ensures) (mod_below c.args.i (length c.in-Block.lines) some)

pub returns-in-Block : goal.returns-in-Block
returns-in-Block c =
    slice_get-block c.args.self.now c.in-Block.times c.in-Block.lines c.args.i c.in-Block.is c.requires
    ∙ ap (λ n. slice_get c.in-Block.lines (c.args.i % n)) (sym c.len.ensures)
    ∙ c.at.ensures
