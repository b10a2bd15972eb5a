-- There is room for the rest.
use Rattle.std.proofs.Common.{◌+◌, ◌≤◌, length}
use Rattle.run_judge.proofs.tests.replies_of.Given as goal

abbrev pub invariant-loop-reply : goal.invariant-loop-reply
invariant-loop-reply l = length l.told ≤ l.reply-index + l.replies.spare
