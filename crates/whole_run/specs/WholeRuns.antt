-- What is said of an arena and its root after a run of scripts.
use Rattle.std.specs.Prelude.{◌≡◌, ℕ, ◌+◌, ◌*◌, List, [], ◌∷◌, length, map}
use Rattle.op_table.specs.declared.call.Reply.{Reply}
use Rattle.place_core.specs.declared.entry.Entry.{Entry}
use Rattle.place_core.specs.declared.script.Line.{Line}
use Rattle.place_core.specs.declared.shape.Shape.{Shape}
use Rattle.place_core.specs.Cells.{entries_by}
use Rattle.place_core.specs.Runs.{asked_by, replies_by, loads_from}
use Rattle.place_core.specs.Shapes.{cells_of_shape}
use Rattle.place_core.specs.ShapeRuns.{IsRun}
use Rattle.seat_views.specs.declared.view.Ended.{Ended}
use Rattle.seat_views.specs.declared.view.Flight.TheVariants.{Idle}
use Rattle.seat_views.specs.States.{ArenaState, PassState, IsOf, IsKept}
use Rattle.seat_views.specs.Paths.{ArePaths}

-- the pass of number i ended with all entries of its number, by the paths of the script with its replies, and made no load
-- aside: its steps are all of its atomic steps
pub record HasEnded (S : Shape) (H : List Entry) (i : ℕ) (script : List Line) (d : Ended) : Type 0 where
  pub number : d.number ≡ i
  pub entries : d.entries ≡ entries_by H i
  pub paths : ArePaths S (asked_by script) (replies_by H i) d.trail
  pub aside : d.aside ≡ 0

-- of each script in order, the first of them of number i
abbrev pub EndedAs : Shape → List Entry → ℕ → List (List Line) → List Ended → Type 0
EndedAs S H i [] [] = Unit {0}
EndedAs S H i [] (d ∷ ds) = ⊥
EndedAs S H i (script ∷ scripts) [] = ⊥
EndedAs S H i (script ∷ scripts) (d ∷ ds) = HasEnded S H i script d × EndedAs S H (i + 1) scripts ds

-- of each of these scripts no replies
abbrev pub no_replies : {A : Type 0} → List A → List (List Reply)
no_replies scripts = map (λ script. []) scripts

-- the root of an arena of the shape S, whose locks began at 0: what it has seen is a run of the scripts, it gave as many
-- numbers as there are scripts, their passes ended in order, and its own steps are the paths of the last loads; aside it
-- made a load for each number that it gave, and two for each pass that it took back
pub record RanWhole (S : Shape) (scripts : List (List Line)) (a : ArenaState) (root : PassState) : Type 0 where
  pub shape : a.shape ≡ S
  pub first_stamp : a.first_stamp ≡ 0
  pub of_arena : IsOf a root
  pub number : root.number ≡ 0
  pub rest : root.flight ≡ Idle
  pub run : IsRun S scripts root.seen
  pub given : root.given ≡ length scripts
  pub ended : EndedAs S root.seen 1 scripts root.ended
  pub loads : ArePaths S (loads_from 0 (cells_of_shape S)) (replies_by root.seen 0) root.trail
  pub aside : root.aside ≡ 3 * length scripts
  pub kept : IsKept root
