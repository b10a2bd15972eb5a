-- What contracts see of a region, and what its calls say.
use Rattle.std.specs.Prelude.{◌≡◌, ℕ, ◌≤◌, true, List, length, Option, Some, None}
use Rattle.op_table.specs.declared.call.Reply.{Reply}
use Rattle.target_desc.specs.declared.target.Target.{Target}
use Rattle.target_desc.specs.Target.{IsTarget}
use Rattle.place_core.specs.Shapes.{IsShape, most_in_shape}
use Rattle.seat_views.specs.States.{ArenaState, PassState, Opens}
use Rattle.atomic_types.specs.Serving.{Serves}
use Rattle.sized_calls.specs.declared.cells.Cell.{Cell}
use Rattle.sized_calls.specs.declared.cells.RegionFault.{RegionFault}
use Rattle.sized_calls.specs.declared.cells.RegionFault.TheVariants.{NoMemory}
use Rattle.sized_calls.specs.declared.operation.SizedCall.{SizedCall}
use Rattle.sized_calls.specs.declared.operation.SizedFault.{SizedFault}
use Rattle.sized_calls.specs.Cells.{first_fault, cell_shape}
use Rattle.sized_calls.specs.Calls.{call_of, sized_fault, IsCellAt}

-- a region: its target, its cells, and the arena of their objects
pub record RegionState : Type 0 where
  pub target : Target
  pub cells : List Cell
  pub arena : ArenaState

-- what the type of a region keeps: no cell has a fault, and the arena has the cells' shape
pub record IsRegion (s : RegionState) : Type 0 where
  pub target : IsTarget s.target
  pub packed : s.target.packed ≡ true
  pub most : length s.cells ≤ most_in_shape
  pub none : first_fault s.target s.cells ≡ None
  pub shape : s.arena.shape ≡ cell_shape s.target s.cells

-- a region of these cells was opened, with its root: no cell has a fault, and the arena has the cells' shape, which is a
-- valid one; its locks begin at 0
pub record OpensCells (t : Target) (cells : List Cell) (s : RegionState) (root : PassState) : Type 0 where
  pub none : first_fault t cells ≡ None
  pub target : s.target ≡ t
  pub cells_are : s.cells ≡ cells
  pub valid : IsShape (cell_shape t cells)
  pub opens : Opens (cell_shape t cells) 0 s.arena root

-- opening was refused: for the fault of the first cell that has one, and for want of memory only where none has
abbrev pub RefusesCells : Option RegionFault → RegionFault → Type 0
RefusesCells None fault = fault ≡ NoMemory
RefusesCells (Some first) fault = fault ≡ first

-- the pass made the call on the object of the cell that has its address, by the path that the plan names
pub record CallsCell (s : RegionState) (c : SizedCall) (p : PassState) (r : Reply) (q : PassState) : Type 0 where
  pub none : sized_fault s.cells c ≡ None
  pub number : ℕ
  pub cell : IsCellAt s.cells c.address number
  pub served : Serves s.arena.shape number (call_of c) p r q

-- the call was refused for its first cause, and the pass stays as it was
pub record RefusesCall (s : RegionState) (c : SizedCall) (p : PassState) (fault : SizedFault) (q : PassState) : Type 0 where
  pub first : sized_fault s.cells c ≡ Some fault
  pub pass : q ≡ p
