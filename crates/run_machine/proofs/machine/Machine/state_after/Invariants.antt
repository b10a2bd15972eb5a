-- The numbers so far are the first of the state after the move.
use Rattle.std.proofs.Common.{◌≡◌, map}
use Rattle.std.specs.List.{range_with_len}
use Rattle.place_core.specs.Pieces.{script_lines}
use Rattle.run_steps.specs.Steps.{cell_after}
use Rattle.run_machine.proofs.machine.Machine.state_after.Given as goal

abbrev pub invariant-loop-i : goal.invariant-loop-i
invariant-loop-i l = l.next ≡ map (cell_after l.self.shape.now (map script_lines l.self.scripts.now) l.state l.step) (range_with_len 0 l.i)
