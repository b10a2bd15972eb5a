-- The numbers so far are the first of the outcome.
use Rattle.std.proofs.Common.{◌≡◌, map}
use Rattle.std.specs.List.{range_with_len}
use Rattle.place_core.specs.Pieces.{script_lines}
use Rattle.run_outcomes.specs.Outcomes.{cell_at}
use Rattle.run_outcomes.proofs.ends.outcome_at.Given as goal

abbrev pub invariant-loop-i : goal.invariant-loop-i
invariant-loop-i l = l.outcome ≡ map (cell_at l.shape (map script_lines l.scripts) l.state) (range_with_len 0 l.i)
