use Rattle.runner.proofs.Running.{unkept_starts, unkept_more, call_left}
use Rattle.runner.proofs.scripts.run_unkept.Goals as goal

pub loop-done-init : goal.loop-done-init
loop-done-init g c = unkept_starts _ _ _ _ c.lines-lines.ensures c.requires.rest c.number.ensures.kept

-- the next line is one of the script's, each of which fits
pub call-reply-requires-clause-object : goal.call-reply-requires-clause-object
call-reply-requires-clause-object g c = (call_left _ _ _ _ _ _ _ _ _ _ c.loop-done.invariant.ran c.in-Some.ensures.line c.requires.fits).0

pub call-reply-requires-clause-fits : goal.call-reply-requires-clause-fits
call-reply-requires-clause-fits g c = (call_left _ _ _ _ _ _ _ _ _ _ c.loop-done.invariant.ran c.in-Some.ensures.line c.requires.fits).1

pub loop-done-preserved : goal.loop-done-preserved
loop-done-preserved g c = unkept_more _ _ _ _ _ _ _ _ _ _ c.loop-done.invariant c.in-Some.ensures.line c.call-reply.ensures.made
