-- The numbers so far are the first of the state before the first call.
use Rattle.std.proofs.Common.{◌≡◌, length, map}
use Rattle.std.specs.List.{range_with_len}
use Rattle.run_steps.specs.Standing.{first_cell}
use Rattle.run_machine.proofs.machine.Machine.start.Given as goal

abbrev pub invariant-loop-i : goal.invariant-loop-i
invariant-loop-i l = l.first ≡ map (first_cell l.self.shape.now (length l.self.scripts.now)) (range_with_len 0 l.i)
