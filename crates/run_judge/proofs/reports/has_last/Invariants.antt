-- The objects so far have their last values.
use Rattle.std.proofs.Common.{◌≡◌, ◌+◌, ◌<◌, ℕ, Some}
use Rattle.std.specs.Prelude.{slice_get, slice_index}
use Rattle.op_table.specs.declared.call.Reply.TheVariants as reply
use Rattle.run_judge.proofs.reports.has_last.Given as goal

abbrev pub invariant-loop-object : goal.invariant-loop-object
invariant-loop-object l = (o : ℕ) → o < l.object → slice_get l.last.items o ≡ Some (reply.Value (slice_index l.state (l.threads + l.threads + o)))
