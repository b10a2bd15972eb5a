use Rattle.std.proofs.Common.{◌≡◌, Some, sym, ◌∙◌, rules}
use Rattle.update_table.proofs.Storing.{updated_by}
use Rattle.update_table.proofs.table.TableOf.update.Goals as goal

pub fetch_update_by-requires-clause-fits : goal.fetch_update_by-requires-clause-fits
fetch_update_by-requires-clause-fits g c =
    let r = c.requires.rules c.args.i c.at.result.now c.at.ensures in search rules

pub fetch_update_by-requires-clause-rule : goal.fetch_update_by-requires-clause-rule
fetch_update_by-requires-clause-rule g c =
    let r = c.requires.rules c.args.i c.at.result.now c.at.ensures in search rules

-- the rule at the place is the one that was asked, and has the table's range
pub returns-clause-updates : goal.returns-clause-updates
returns-clause-updates g c =
    let r = c.requires.rules c.args.i c.at.result.now c.at.ensures in
    λ rule there. updated_by g.B.Rule.leads _ _ _ _ _ _ c.at.result.now rule _ _ _ r.low_is r.high_is (let same : Some c.at.result.now ≡ Some rule = sym c.at.ensures ∙ there in cc same) c.fetch_update_by.ensures.updates
