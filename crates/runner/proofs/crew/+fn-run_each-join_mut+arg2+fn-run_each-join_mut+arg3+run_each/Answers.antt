use Rattle.std.proofs.Common.{rules}
use Rattle.runner.proofs.Halves.{halves_run}
use Rattle.runner.proofs.crew.+fn-run_each-join_mut+arg2+fn-run_each-join_mut+arg3+run_each.Goals as goal

-- each half has run, and the slice is both halves
pub returns : goal.returns
returns g t c =
    halves_run c.args.keep c.args.arena.now.shape c.args.workers.now c.split_at_mut-front.result.0.now c.split_at_mut-front.result.1.now c.front-1.given.0 c.back-1.given.0 (search rules) (search rules) (search rules)
