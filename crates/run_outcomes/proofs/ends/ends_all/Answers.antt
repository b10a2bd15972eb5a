-- One thread more made all its calls, or it did not.
use Rattle.std.proofs.Common.{true, false, ◌≡◌, sym, ◌∙◌, arith, refl, below_more}
use Rattle.place_core.specs.Pieces.{script_lines}
use Rattle.run_steps.proofs.Lists.{length-map'}
use Rattle.run_outcomes.proofs.States.{line_count}
use Rattle.run_outcomes.proofs.ends.ends_all.Goals as goal

pub loop-thread-init : goal.loop-thread-init
loop-thread-init c = λ t below. absurd (omega arith)

pub returns-then-at-from : goal.returns-then-at-from
returns-then-at-from c = (
  λ no. let clash : false ≡ true = no in absurd cc,
  λ all. absurd (c.if-at-from.true (c.at.ensures
      ∙ all c.loop-thread.thread (let same = length-map' script_lines c.args.scripts.now in omega (arith, c.loop-thread-test.true, same))
      ∙ sym (line_count c.args.scripts.now c.loop-thread.thread c.index-scripts-thread.result c.loop-thread-test.true c.index-scripts-thread.is)
      ∙ sym c.len.ensures ∙ sym c.from.ensures)),
)

pub loop-thread-preserved : goal.loop-thread-preserved
loop-thread-preserved c = below_more _ _ c.loop-thread.invariant (sym c.at.ensures ∙ c.if-at-from.false ∙ c.from.ensures ∙ c.len.ensures ∙ line_count c.args.scripts.now c.loop-thread.thread c.index-scripts-thread.result c.loop-thread-test.true c.index-scripts-thread.is)

pub returns : goal.returns
returns c = (
  λ yes t within. c.loop-thread.invariant t (let same = length-map' script_lines c.args.scripts.now in omega arith),
  λ all. refl,
)
