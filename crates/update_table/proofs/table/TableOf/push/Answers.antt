use Rattle.std.proofs.Common.{rules}
use Rattle.update_table.specs.Tables.{IsRuleOf}
use Rattle.update_table.proofs.Storing.{each_with_one_more}
use Rattle.update_table.proofs.table.TableOf.push.Goals as goal

pub returns-in-Err-clause-rules : goal.returns-in-Err-clause-rules
returns-in-Err-clause-rules g c = λ i rule at. (let r = c.requires.rules i rule (search rules) in record { low_is = search rules; high_is = search rules; rule = r.rule })

-- the rules that were there, and the new one
pub returns-clause-rules : goal.returns-clause-rules
returns-clause-rules g c = λ i rule at.
    each_with_one_more (λ x. IsRuleOf c.self.inside.lo c.self.inside.hi (g.B.Rule.low x) (g.B.Rule.high x) (g.B.Rule.is_rule x)) c.self.inside.rules.items c.args.rule
    (λ j x there. let r = c.requires.rules j x (search rules) in record { low_is = search rules; high_is = search rules; rule = r.rule })
    (record { low_is = search rules; high_is = search rules; rule = c.requires.rule }) i rule (search rules)
