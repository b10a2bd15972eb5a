use Rattle.std.proofs.Common.{arith, rules}
use Rattle.work_lang.proofs.Cutting.{room, goes_on, turns, ends}
use Rattle.work_lang.proofs.second.cut.Goals as goal

pub overflow_add-run : goal.overflow_add-run
overflow_add-run c = let r = room _ _ _ _ _ c.lines.invariant in omega (arith, r.lines, c.requires)

pub lines-preserved-then-is_same : goal.lines-preserved-then-is_same
lines-preserved-then-is_same c = goes_on _ _ _ _ _ _ _ c.in-Some-next.ensures.line (c.is_same.ensures.0 c.if-is_same.true) c.lines.invariant

pub push_run-requires-clause-lines : goal.push_run-requires-clause-lines
push_run-requires-clause-lines c = let r = room _ _ _ _ _ c.lines.invariant in omega (arith, r.lines, c.requires)

pub push_run-requires-clause-pieces : goal.push_run-requires-clause-pieces
push_run-requires-clause-pieces c = let r = room _ _ _ _ _ c.lines.invariant in omega (arith, r.lines, r.pieces, c.requires)

pub lines-preserved : goal.lines-preserved
lines-preserved c = turns _ _ _ _ _ _ _ _ c.in-Some-next.ensures.line (λ e. search rules) c.in_ok-push_run.ensures c.lines.invariant

pub push_run-requires-2-clause-lines : goal.push_run-requires-2-clause-lines
push_run-requires-2-clause-lines c = let r = room _ _ _ _ _ c.lines.invariant in omega (arith, r.lines, c.requires)

pub push_run-requires-2-clause-pieces : goal.push_run-requires-2-clause-pieces
push_run-requires-2-clause-pieces c = let r = room _ _ _ _ _ c.lines.invariant in omega (arith, r.lines, r.pieces, c.requires)

pub returns : goal.returns
returns c = ends _ _ _ _ _ _ c.in_default-next.ensures.line c.in_ok-push_run-2.ensures c.lines.invariant
