use Rattle.std.proofs.Common.{◌+◌, ◌*◌, ◌∷◌, [], length, refl, ap, sym, ◌∙◌, arith, length-append}
use Rattle.place_core.specs.declared.script.Piece.TheVariants.{Block}
use Rattle.place_core.specs.Pieces.{script_lines}
use Rattle.place_core.proofs.ScriptLists.{length-block, length-script_lines}
use Rattle.place_core.proofs.script.Script.push_block.Goals as goal

-- the block's lines are counted
pub invariant_of-self : goal.invariant_of-self
invariant_of-self c =
    let pieces = c.self.inside.pieces.items in
    let block = Block c.args.times c.args.lines in (
      ap (λ n. n + c.args.times * c.len.result) c.self.invariant.0
          ∙ ap (λ n. length (script_lines pieces) + c.args.times * n) c.len.ensures
          ∙ ap (λ n. length (script_lines pieces) + n) (length-block block c.args.times c.args.lines refl)
          ∙ sym (ap (λ all. length (script_lines all)) c.in-Ok.ensures.items ∙ length-script_lines pieces block),
      omega (arith, c.requires.pieces, ap length c.self.view_is, ap length c.in-Ok.ensures.items, length-append pieces (block ∷ [])),
    )
