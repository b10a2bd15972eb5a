use Rattle.std.proofs.Common.{ℕ, arith}
use Rattle.wait_cell.proofs.Waiting.{looks_none, looks_more, looks_end, looks_vain}
use Rattle.wait_cell.proofs.looks.look.Goals as goal

pub loop-turn-init : goal.loop-turn-init
loop-turn-init c = (c.requires.ready, looks_none _ _ _ _ c.requires.ready.rest c.number-number.ensures.kept)

pub returns-then-found-expected-clause-some : goal.returns-then-found-expected-clause-some
returns-then-found-expected-clause-some c = looks_end _ _ _ _ _ _ _ _ _ c.loop-turn.invariant.1 c.loop-turn-test.true c.load_now-found.ensures.made c.if-found-expected.true

pub loop-turn-preserved : goal.loop-turn-preserved
loop-turn-preserved c = (c.load_now-found.ensures.ready, looks_more _ _ _ _ _ _ _ _ c.loop-turn.invariant.1 c.load_now-found.ensures.made c.if-found-expected.false)

-- so many turns were looked, and as many were wanted
pub returns-clause-none : goal.returns-clause-none
returns-clause-none c = looks_vain _ _ _ _ _ _ _ c.loop-turn.invariant.1 (omega arith)
