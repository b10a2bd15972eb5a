use Rattle.std.proofs.Common.{◌≡◌, ◌+◌, length}
use Rattle.sized_calls.specs.Cells.{faults_from, first_fault}
use Rattle.sized_calls.proofs.cells.first_fault.Given as goal

-- the cells before have no fault
abbrev pub invariant-cells : goal.invariant-cells
invariant-cells l = record {
  same : faults_from l.target l.number l.end l.rest ≡ first_fault l.target l.cells;
  count : l.number + length l.rest ≡ length l.cells;
}

abbrev pub decreases-cells : goal.decreases-cells
decreases-cells l = length l.rest
