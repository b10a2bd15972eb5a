use Rattle.std.proofs.Common.{true, false, sym, ◌∙◌}
use Rattle.target_desc.proofs.Rows.{name_at}
use Rattle.target_desc.proofs.target.name_of.Goals as goal

pub returns-then-same_target : goal.returns-then-same_target
returns-then-same_target c =
    let here = name_at (λ row. (row.0.now, row.1)) c.builtins-row-items.result.now c.loop-row.row-index _ c.loop-row-test.true c.args.target.now true (sym c.if-same_target.true ∙ c.same_target.ensures) in
    sym c.loop-row.invariant ∙ here

pub loop-row-preserved : goal.loop-row-preserved
loop-row-preserved c =
    let here = name_at (λ row. (row.0.now, row.1)) c.builtins-row-items.result.now c.loop-row.row-index _ c.loop-row-test.true c.args.target.now false (sym c.if-same_target.false ∙ c.same_target.ensures) in
    sym here ∙ c.loop-row.invariant
