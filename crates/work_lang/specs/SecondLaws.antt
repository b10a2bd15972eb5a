-- Laws of second forms, as the module `laws` proves them.
use Rattle.std.specs.Prelude.{◌≡◌, ◌↔◌, List}
use Rattle.place_core.specs.declared.entry.Entry.{Entry}
use Rattle.place_core.specs.declared.shape.Shape.{Shape}
use Rattle.place_core.specs.ShapeRuns.{IsRun}
use Rattle.work_lang.specs.Workload.{Workload, IsWork, threads_of}
use Rattle.work_lang.specs.Second.{IsSecond}

-- a workload has one second form
abbrev pub SecondFormIsOne : Type 0
SecondFormIsOne = (w v u : Workload) → IsSecond w v → IsSecond w u → v ≡ u

-- the second form of a workload is one, within the limits of its version
abbrev pub SecondFormIsWork : Type 0
SecondFormIsWork = (w v : Workload) → IsWork w → IsSecond w v → IsWork v

-- the same objects on the same target, and the same lines in each thread
pub record AreSameRuns (w v : Workload) : Type 0 where
  pub target : v.target ≡ w.target
  pub objects : v.objects ≡ w.objects
  pub threads : threads_of v ≡ threads_of w
  pub runs : (S : Shape) (H : List Entry) → IsRun S (threads_of v) H ↔ IsRun S (threads_of w) H

-- a run of the second form is a run of the first, and back
abbrev pub SecondFormRunsAlike : Type 0
SecondFormRunsAlike = (w v : Workload) → IsSecond w v → AreSameRuns w v
