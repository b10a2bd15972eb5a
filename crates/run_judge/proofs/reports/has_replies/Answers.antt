-- One thread more has a reply for each line, or it has not.
use Rattle.std.proofs.Common.{◌≡◌, true, false, sym, ◌∙◌, arith, below_more}
use Rattle.place_core.specs.Pieces.{script_lines}
use Rattle.run_steps.proofs.Lists.{length-map'}
use Rattle.run_outcomes.proofs.States.{line_count}
use Rattle.run_judge.proofs.Judged.{reply_count}
use Rattle.run_judge.proofs.reports.has_replies.Goals as goal

pub returns-then-len : goal.returns-then-len
returns-then-len c = (
  λ no. let clash : false ≡ true = no in absurd cc,
  λ has.
      let two = length-map' script_lines c.args.scripts.now in
      absurd (c.if-len.true (c.len.ensures
      ∙ reply_count c.args.replies.now c.loop-thread.thread c.index-replies-thread.result (omega (arith, c.loop-thread-test.true, c.if-replies-scripts.false)) c.index-replies-thread.is
      ∙ has.lines c.loop-thread.thread (omega (arith, c.loop-thread-test.true, two))
      ∙ sym (line_count c.args.scripts.now c.loop-thread.thread c.index-scripts-thread.result c.loop-thread-test.true c.index-scripts-thread.is)
      ∙ sym c.len-in-loop-thread.ensures)),
)

pub loop-thread-preserved : goal.loop-thread-preserved
loop-thread-preserved c = below_more _ _ c.loop-thread.invariant
    (sym (reply_count c.args.replies.now c.loop-thread.thread c.index-replies-thread.result (omega (arith, c.loop-thread-test.true, c.if-replies-scripts.false)) c.index-replies-thread.is)
    ∙ sym c.len.ensures ∙ c.if-len.false ∙ c.len-in-loop-thread.ensures
    ∙ line_count c.args.scripts.now c.loop-thread.thread c.index-scripts-thread.result c.loop-thread-test.true c.index-scripts-thread.is)
