use Rattle.std.proofs.Common.{length, map, ap, ◌∙◌, arith}
use Rattle.place_core.specs.Pieces.{script_lines}
use Rattle.ledger_sums.specs.Tallies.{first_tallies, tallies_end, settled}
use Rattle.ledger_sums.proofs.Tallying.{take_written, settled-tallies_end, length-fixed_values_of}
use Rattle.ledger_sums.proofs.fixed.fixed_values.Goals as goal

-- the tallies that were written in place are those after all scripts
pub returns-clause-values : goal.returns-clause-values
returns-clause-values c =
    let S = c.args.shape.now in
    let scripts = map script_lines c.args.scripts.now in
    ap (map settled) (take_written _ _ _ (omega (arith, c.add_scripts.auto.tallies, c.as_mut_slice.ensures.len)))
    ∙ ap (map settled) (c.add_scripts.ensures.after ∙ ap (λ tallies. tallies_end S tallies scripts) (c.as_mut_slice.ensures.value ∙ c.in_ok-tallies.ensures ∙ ap first_tallies c.as_slice.ensures))
    ∙ settled-tallies_end S scripts

-- one an object
pub returns-clause-whole : goal.returns-clause-whole
returns-clause-whole c = ap length (returns-clause-values c) ∙ length-fixed_values_of c.args.shape.now (map script_lines c.args.scripts.now)
