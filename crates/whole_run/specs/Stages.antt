-- The passes of a whole run: as they are given, after their scripts were run, and once the root took them back.
use Rattle.std.specs.Prelude.{◌≡◌, ℕ, ◌+◌, ◌*◌, ◌≤◌, List, [], ◌∷◌, length, map, vec_len, vec_capacity}
use mathlib.Core.List.{IsPrefix}
use Rattle.op_table.specs.declared.call.Reply.{Reply}
use Rattle.place_core.specs.declared.entry.Entry.{Entry}
use Rattle.place_core.specs.declared.script.Line.{Line}
use Rattle.place_core.specs.declared.shape.Shape.{Shape}
use Rattle.place_core.specs.Histories.{Each}
use Rattle.place_core.specs.Cells.{entries_by}
use Rattle.place_core.specs.Earned.{IsEarned, IsSpuriousEntry}
use Rattle.place_core.specs.RepliesState.{RepliesState}
use Rattle.place_core.specs.Runs.{asked_by}
use Rattle.seat_views.specs.declared.view.Ended.{Ended}
use Rattle.seat_views.specs.States.{ArenaState, PassState, IsKept, first_pass}
use Rattle.seat_views.specs.Makes.{entries_with, MakesCalls}
use Rattle.seat_views.specs.Paths.{ArePaths}
use Rattle.place_core.specs.Pieces.{script_lines}
use Rattle.runner.specs.declared.worker.Keep.{Keep}
use Rattle.runner.specs.declared.worker.Keep.TheVariants.{Replies}
use Rattle.runner.specs.declared.worker.Worker.{Worker}
use Rattle.whole_run.specs.WholeRuns.{no_replies}
use Rattle.whole_run.specs.declared.taken.Taken.{Taken}

-- ---- passes given

-- the root of a new arena after it gave this many numbers, each by a load aside
abbrev pub root_of : ArenaState → ℕ → PassState
root_of a given = record (first_pass a) { aside = given; given = given }

-- the pass of number i of a new arena, before its first step
abbrev pub pass_of : ArenaState → ℕ → PassState
pass_of a i = record (first_pass a) { number = i }

-- the worker has the pass of number i, no replies, and room for all of its script's where they are kept
pub record IsManned (keep : Keep) (a : ArenaState) (i : ℕ) (w : Worker) : Type 0 where
  pub pass : w.pass ≡ pass_of a i
  pub empty : w.replies.items ≡ []
  pub room : keep ≡ Replies → length (script_lines w.script) ≤ w.replies.spare

-- of each worker in order, the first of them of number i
abbrev pub AreManned : Keep → ArenaState → ℕ → List Worker → Type 0
AreManned keep a i [] = Unit {0}
AreManned keep a i (w ∷ ws) = IsManned keep a i w × AreManned keep a (i + 1) ws

-- the root of a new arena gave passes to these workers, in order
pub record HasManned (keep : Keep) (a : ArenaState) (ws : List Worker) (p : PassState) : Type 0 where
  pub root : p ≡ root_of a (length ws)
  pub kept : IsKept p
  pub manned : AreManned keep a 1 ws

-- ---- scripts run

-- the replies to a pass's calls, by its own entries
abbrev pub told_by : Worker → List Reply
told_by w = map (λ (x : Entry). x.reply) w.pass.mine

-- the worker's pass, of number i, made its script's calls, and nothing else
abbrev pub IsDone : ArenaState → ℕ → Worker → Type 0
IsDone a i w = MakesCalls a.shape (asked_by (script_lines w.script)) (pass_of a i) (told_by w) w.pass

-- of each worker in order, the first of them of number i
abbrev pub AreDone : ArenaState → ℕ → List Worker → Type 0
AreDone a i [] = Unit {0}
AreDone a i (w ∷ ws) = IsDone a i w × AreDone a (i + 1) ws

-- each worker has kept the replies to its calls
abbrev pub HaveKept : List Worker → Type 0
HaveKept ws = map (λ (k : RepliesState). k.items) (map (λ (w : Worker). w.replies) ws) ≡ map told_by ws

-- no worker has replies
abbrev pub HaveNone : List Worker → Type 0
HaveNone ws = map (λ (k : RepliesState). k.items) (map (λ (w : Worker). w.replies) ws) ≡ no_replies (map (λ (w : Worker). w.script) ws)

-- ---- passes taken back

-- the spurious failures of caller c in the history are earned
abbrev pub OwnEarned : Shape → ℕ → List Entry → Type 0
OwnEarned S c H = Each (λ G x. x.caller ≡ c → IsSpuriousEntry x → IsEarned S G x) H

-- what the root keeps of the pass of number i: its entries are the script's calls with the replies, by their paths, and
-- it made no load aside; what the pass had seen begins what the root has seen, and its own failures there were earned
pub record IsBack (S : Shape) (H : List Entry) (i : ℕ) (script : List Line) (replies : List Reply) (d : Ended) : Type 0 where
  pub number : d.number ≡ i
  pub count : length replies ≡ length (asked_by script)
  pub entries : d.entries ≡ entries_with i (asked_by script) replies
  pub paths : ArePaths S (asked_by script) replies d.trail
  pub aside : d.aside ≡ 0
  pub seen : List Entry
  pub front : IsPrefix seen H
  pub own : entries_by seen i ≡ d.entries
  pub earned : OwnEarned S i seen

-- of each script in order, the first of them of number i
abbrev pub AreBack : Shape → List Entry → ℕ → List (List Line) → List (List Reply) → List Ended → Type 0
AreBack S H i [] [] [] = Unit {0}
AreBack S H i [] [] (d ∷ ds) = ⊥
AreBack S H i [] (r ∷ rs) ds = ⊥
AreBack S H i (script ∷ scripts) [] ds = ⊥
AreBack S H i (script ∷ scripts) (r ∷ rs) [] = ⊥
AreBack S H i (script ∷ scripts) (r ∷ rs) (d ∷ ds) = IsBack S H i script r d × AreBack S H (i + 1) scripts rs ds

-- the root of a new arena, which gave this many numbers, and took the passes of these scripts back, in order, each by two
-- loads aside
pub record HasBack (a : ArenaState) (given : ℕ) (scripts : List (List Line)) (replies : List (List Reply)) (p : PassState) : Type 0 where
  pub now : p ≡ record (root_of a given) { seen = p.seen; aside = given + 2 * length scripts; ended = p.ended }
  pub kept : IsKept p
  pub back : AreBack a.shape p.seen 1 scripts replies p.ended

-- there is room for this many scripts and replies more
abbrev pub HasRoom : Taken → ℕ → Type 0
HasRoom t n = (vec_len t.scripts + n ≤ vec_capacity t.scripts) × (vec_len t.replies + n ≤ vec_capacity t.replies)
