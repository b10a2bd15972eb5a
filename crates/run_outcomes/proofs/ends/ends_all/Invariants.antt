-- The threads so far made all their calls.
use Rattle.std.proofs.Common.{◌≡◌, ◌<◌, length, map, ℕ}
use Rattle.std.specs.Prelude.{slice_index}
use Rattle.place_core.specs.Pieces.{script_lines}
use Rattle.run_steps.specs.Parts.{lines_of}
use Rattle.run_outcomes.proofs.ends.ends_all.Given as goal

abbrev pub invariant-loop-thread : goal.invariant-loop-thread
invariant-loop-thread l = (t : ℕ) → t < l.thread → slice_index l.state t ≡ length (lines_of (map script_lines l.scripts) t)
