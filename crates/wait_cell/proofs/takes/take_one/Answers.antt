use Rattle.std.proofs.Common.{ℕ, ◌<◌, arith, subst}
use Rattle.op_table.specs.declared.kind.Kind.{Kind}
use Rattle.op_table.specs.Kind.{values_of}
use Rattle.wait_cell.proofs.Taking.{tries_none, tries_more, tries_end}
use Rattle.wait_cell.proofs.takes.take_one.Goals as goal

pub loop-init : goal.loop-init
loop-init g c = (
  tt,
  tt,
  c.load-number.ensures.ready,
  subst (λ (k : Kind). c.load-number.result < values_of k) c.requires.count.1 c.load-number.ensures.fits,
  tries_none _ _ _ _ _ c.number-number.ensures.kept c.load-number.ensures.made,
)

pub returns-in-Ok-clause-took : goal.returns-in-Ok-clause-took
returns-in-Ok-clause-took g c = tries_end _ _ _ _ _ _ _ _ c.loop.invariant.4 (omega arith) c.in-Ok.ensures.done c.in-Ok.ensures.made

pub loop-preserved : goal.loop-preserved
loop-preserved g c = (
  tt,
  tt,
  c.exchange.ensures.ready,
  subst (λ (k : Kind). c.in-Err.found < values_of k) c.requires.count.1 c.in-Err.ensures.failed,
  tries_more _ _ _ _ _ _ _ _ c.loop.invariant.4 (omega arith) c.in-Err.ensures.made,
)
