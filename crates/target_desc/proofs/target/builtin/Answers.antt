use Rattle.std.proofs.Common.{true, false, sym, ◌∙◌}
use Rattle.target_desc.proofs.Rows.{named_at}
use Rattle.target_desc.proofs.target.builtin.Goals as goal

pub returns-then-eq : goal.returns-then-eq
returns-then-eq c =
    let here = named_at (λ row. (row.0.now, row.1)) c.builtins-row-items.result.now c.loop-row.row-index _ c.loop-row-test.true c.args.name.now _ true c.as_bytes.ensures.value (sym c.if-eq.true ∙ c.eq.ensures) in
    sym here ∙ c.loop-row.invariant

pub loop-row-preserved : goal.loop-row-preserved
loop-row-preserved c =
    let here = named_at (λ row. (row.0.now, row.1)) c.builtins-row-items.result.now c.loop-row.row-index _ c.loop-row-test.true c.args.name.now _ false c.as_bytes.ensures.value (sym c.if-eq.false ∙ c.eq.ensures) in
    sym here ∙ c.loop-row.invariant
