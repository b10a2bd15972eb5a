use Rattle.std.proofs.Common.{ℕ}
use Rattle.wait_cell.proofs.Waiting.{loads_none, loads_more, loads_end}
use Rattle.wait_cell.proofs.waits.wait_while.Goals as goal

pub returns-then-not-goes_on-clause-waits : goal.returns-then-not-goes_on-clause-waits
returns-then-not-goes_on-clause-waits g c =
    loads_end _ _ _ _ _ _ _ _ (loads_none _ _ _ _ c.requires.ready.rest c.number-number.ensures.kept) c.load-found.ensures.made c.if-not-goes_on.ensures

pub loop-init : goal.loop-init
loop-init g c = (
  tt,
  tt,
  c.load-found.ensures.ready,
  loads_more _ _ _ _ _ _ _ (loads_none _ _ _ _ c.requires.ready.rest c.number-number.ensures.kept) c.load-found.ensures.made c.if-not-goes_on.ensures,
)

pub returns-then-not-goes_on-2-clause-waits : goal.returns-then-not-goes_on-2-clause-waits
returns-then-not-goes_on-2-clause-waits g c = loads_end _ _ _ _ _ _ _ _ c.loop.invariant.3 c.load-found-in-loop.ensures.made c.if-not-goes_on-2.ensures

pub loop-preserved : goal.loop-preserved
loop-preserved g c = (
  tt,
  tt,
  c.load-found-in-loop.ensures.ready,
  loads_more _ _ _ _ _ _ _ c.loop.invariant.3 c.load-found-in-loop.ensures.made c.if-not-goes_on-2.ensures,
)
