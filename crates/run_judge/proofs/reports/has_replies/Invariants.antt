-- The threads so far have a reply for each line.
use Rattle.std.proofs.Common.{◌≡◌, ◌<◌, length, map, ℕ}
use Rattle.place_core.specs.Pieces.{script_lines}
use Rattle.run_steps.specs.Parts.{lines_of}
use Rattle.run_judge.specs.Reports.{items_of}
use Rattle.run_judge.specs.Agreeing.{replies_at}
use Rattle.run_judge.proofs.reports.has_replies.Given as goal

abbrev pub invariant-loop-thread : goal.invariant-loop-thread
invariant-loop-thread l = (t : ℕ) → t < l.thread → length (replies_at (items_of l.replies) t) ≡ length (lines_of (map script_lines l.scripts) t)
