-- What contracts say of scripts that are run.
use Rattle.std.specs.Prelude.{◌≡◌, ◌+◌, ◌≤◌, List, [], ◌∷◌, ◌++◌, length}
use Rattle.std.specs.List.{AllByRecursion}
use Rattle.op_table.specs.declared.call.Reply.{Reply}
use Rattle.place_core.specs.declared.script.Line.{Line}
use Rattle.place_core.specs.declared.shape.Shape.{Shape}
use Rattle.place_core.specs.RepliesState.{RepliesState}
use Rattle.place_core.specs.Pieces.{script_lines}
use Rattle.place_core.specs.Runs.{asked_by, ScriptFits}
use Rattle.place_core.specs.Shapes.{cells_of_shape}
use Rattle.seat_views.specs.declared.view.Flight.TheVariants.{Idle}
use Rattle.seat_views.specs.States.{ArenaState, PassState, IsOf}
use Rattle.seat_views.specs.Makes.{MakesCalls}
use Rattle.runner.specs.declared.worker.Worker.{Worker}
use Rattle.runner.specs.declared.worker.Keep.{Keep}
use Rattle.runner.specs.declared.worker.Keep.TheVariants.{Replies, Nothing}

-- the pass made the calls of these lines, in order, by their paths, and the replies that were gained are those to them
pub record RunsLines (S : Shape) (lines : List Line) (p : PassState) (old new : RepliesState) (q : PassState) : Type 0 where
  pub replies : List Reply
  pub gained : new.items ≡ old.items ++ replies
  pub spare : new.spare + length replies ≡ old.spare
  pub made : MakesCalls S (asked_by lines) p replies q

-- the same, where the replies are kept by nobody
pub record RunsUnkept (S : Shape) (lines : List Line) (p q : PassState) : Type 0 where
  pub replies : List Reply
  pub made : MakesCalls S (asked_by lines) p replies q

-- the worker can run its script: its pass is of the arena and has nothing in flight, and each line fits
pub record IsSet (a : ArenaState) (w : Worker) : Type 0 where
  pub arena : IsOf a w.pass
  pub rest : w.pass.flight ≡ Idle
  pub fits : ScriptFits (cells_of_shape a.shape) (script_lines w.script)

-- and there is room for the replies
pub record IsReady (a : ArenaState) (w : Worker) : Type 0 where
  pub set : IsSet a w
  pub room : length (script_lines w.script) ≤ w.replies.spare

-- the worker ran its script, which stays
pub record HasRun (S : Shape) (v w : Worker) : Type 0 where
  pub script : w.script ≡ v.script
  pub ran : RunsLines S (script_lines v.script) v.pass v.replies w.replies w.pass

-- the same, and its replies stay too
pub record HasRunUnkept (S : Shape) (v w : Worker) : Type 0 where
  pub script : w.script ≡ v.script
  pub replies : w.replies ≡ v.replies
  pub ran : RunsUnkept S (script_lines v.script) v.pass w.pass

-- what a worker needs, by what is kept
abbrev pub IsReadyTo : Keep → ArenaState → Worker → Type 0
IsReadyTo Replies a w = IsReady a w
IsReadyTo Nothing a w = IsSet a w

-- what it comes to
abbrev pub HasRunTo : Keep → Shape → Worker → Worker → Type 0
HasRunTo Replies S v w = HasRun S v w
HasRunTo Nothing S v w = HasRunUnkept S v w

-- each worker has what it needs
abbrev pub AreReadyTo : Keep → ArenaState → List Worker → Type 0
AreReadyTo keep a workers = AllByRecursion (λ w. IsReadyTo keep a w) workers

-- where every reply is kept
abbrev pub AreReady : ArenaState → List Worker → Type 0
AreReady a workers = AreReadyTo Replies a workers

-- each worker has run its script, in order
abbrev pub HaveRunTo : Keep → Shape → List Worker → List Worker → Type 0
HaveRunTo keep S [] [] = Unit {0}
HaveRunTo keep S [] (w ∷ ws) = ⊥
HaveRunTo keep S (v ∷ vs) [] = ⊥
HaveRunTo keep S (v ∷ vs) (w ∷ ws) = HasRunTo keep S v w × HaveRunTo keep S vs ws

-- where every reply is kept
abbrev pub HaveRun : Shape → List Worker → List Worker → Type 0
HaveRun S vs ws = HaveRunTo Replies S vs ws
