-- A run that has all that it needs, and wasn't begun.
use Rattle.std.specs.Prelude.{◌≡◌, ◌≤◌, List, [], length, map}
use Rattle.place_core.specs.declared.script.Piece.{Piece}
use Rattle.place_core.specs.declared.shape.Shape.{Shape}
use Rattle.seat_views.specs.States.{PassState, Opens}
use Rattle.runner.specs.declared.worker.Keep.{Keep}
use Rattle.runner.specs.declared.worker.Worker.{Worker}
use Rattle.whole_run.specs.Stages.{HasManned, HasRoom}
use Rattle.whole_run.specs.declared.whole.ReadyRun.{ReadyRun}

-- the shape of its arena
abbrev pub shape_in : ReadyRun → Shape
shape_in r = r.arena.shape

-- its scripts
abbrev pub scripts_in : ReadyRun → List (List Piece)
scripts_in r = map (λ (w : Worker). w.script) r.workers.items

-- what it keeps
abbrev pub keep_in : ReadyRun → Keep
keep_in r = r.keep

-- its arena is new, each script has a pass and room for its replies where they are kept, and there is room for what is left
-- of the run
pub record IsReadyRun (r : ReadyRun) : Type 0 where
  pub first : PassState
  pub opens : Opens r.arena.shape 0 r.arena first
  pub manned : HasManned r.keep r.arena r.workers.items r.root
  pub no_scripts : r.taken.scripts.items ≡ []
  pub no_replies : r.taken.replies.items ≡ []
  pub room : HasRoom r.taken (length r.workers.items)
  pub no_loads : r.last.items ≡ []
  pub room_for_loads : length r.arena.shape.objects ≤ r.last.spare
